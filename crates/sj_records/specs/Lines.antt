-- The lines of a stream: the parts between line feeds.
use Rattle.std.specs.Prelude.{ℕ, ◌==◌, if◌then◌else◌, List, [], ◌∷◌, ◌++◌}

-- the first line with one more byte in front, where there is a line
abbrev pub onto_first : ℕ → List (List ℕ) → List (List ℕ)
onto_first b [] = []
onto_first b (line ∷ lines) = (b ∷ line) ∷ lines

-- the bytes with one more in front, where no line feed follows
abbrev pub onto_last : ℕ → List (List ℕ) → List ℕ → List ℕ
onto_last b [] rest = b ∷ rest
onto_last b (line ∷ lines) rest = rest

-- the lines that a line feed ends, without it
abbrev pub ended : List ℕ → List (List ℕ)
ended [] = []
ended (b ∷ bs) = if b == 0x0a then [] ∷ ended bs else onto_first b (ended bs)

-- the bytes behind the last line feed
abbrev pub unended : List ℕ → List ℕ
unended [] = []
unended (b ∷ bs) = if b == 0x0a then unended bs else onto_last b (ended bs) (unended bs)

-- the bytes behind the last line feed, which are a line exactly if there are any
abbrev pub if_any : List ℕ → List (List ℕ)
if_any [] = []
if_any (b ∷ bs) = (b ∷ bs) ∷ []

abbrev pub lines : List ℕ → List (List ℕ)
lines bs = ended bs ++ if_any (unended bs)
