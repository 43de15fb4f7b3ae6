-- Literals that stand as a whole word: a separator or the end comes next.
use Rattle.std.specs.Prelude.{ℕ, Bool, true, ◌&&◌, ◌||◌, List, [], ◌∷◌, length, take, drop, bytes_eq}
use Rattle.sj_scan.specs.Positions.{is_whitespace, is_operator}

-- Nothing, whitespace or an operator comes first.
abbrev pub ends_word : List ℕ → Bool
ends_word [] = true
ends_word (b ∷ bs) = is_whitespace b || is_operator b

abbrev pub is_atom : List ℕ → List ℕ → Bool
is_atom literal bytes = bytes_eq (take (length literal) bytes) literal && ends_word (drop (length literal) bytes)
