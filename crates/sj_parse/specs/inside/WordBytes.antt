-- Bytes of words and of string bodies.
use Rattle.std.specs.Prelude.{ℕ, Bool, true, false, not, ◌||◌, ◌==◌, if◌then◌else◌, List, [], ◌∷◌}
use Rattle.sj_scan.specs.Positions.{is_whitespace, is_operator}

-- none of whitespace, an operator, a quote and a backslash
abbrev pub is_word_byte : ℕ → Bool
is_word_byte b = not (is_whitespace b || is_operator b || b == 0x22 || b == 0x5c)

-- Each quote is escaped, and the last backslash escapes something. The flag says whether the first byte is escaped.
abbrev pub is_inner_from : Bool → List ℕ → Bool
is_inner_from e [] = not e
is_inner_from false (b ∷ bs) = if b == 0x22 then false else is_inner_from (b == 0x5c) bs
is_inner_from true (b ∷ bs) = is_inner_from false bs

abbrev pub is_inner_body : List ℕ → Bool
is_inner_body body = is_inner_from false body
