-- Tokens (RFC 8259, section 2): the byte at a position with what follows it.
use Rattle.std.specs.Prelude.{ℕ, ◌||◌, ◌==◌, if◌then◌else◌, List, [], ◌∷◌, map, drop, slice_index}
use Rattle.sj_scan.specs.Positions.{is_whitespace, is_operator, is_real_quote, before, positions}

pub record Token : Type 0 where
  pub place : ℕ  -- in bytes from the start of the text
  pub byte : ℕ  -- the byte at the place
  pub text : List ℕ  -- the body of a string, without its quotes; any other token whole

-- the bytes up to the next whitespace, operator or the end, across quotes
abbrev pub word : List ℕ → List ℕ
word [] = []
word (b ∷ bs) = if is_whitespace b || is_operator b then [] else b ∷ word bs

-- the bytes up to the next real quote, or the end; `before` is what stands before them, the nearest first
abbrev pub body : List ℕ → List ℕ → List ℕ
body before [] = []
body before (b ∷ bs) = if is_real_quote before b then [] else b ∷ body (b ∷ before) bs

-- from the token's bytes and what follows, and from what stands before it
abbrev pub token_text : List ℕ → List ℕ → List ℕ
token_text before [] = []
token_text before (b ∷ bs) =
    if is_operator b then b ∷ []
    else (if b == 0x22 then body (b ∷ before) bs
    else word (b ∷ bs))

abbrev pub token_at : List ℕ → ℕ → Token
token_at bytes place = record {
  place = place;
  byte = slice_index bytes place;
  text = token_text (before bytes place) (drop place bytes);
}

-- the tokens of a text, in order
abbrev pub tokens : List ℕ → List Token
tokens bytes = map (token_at bytes) (positions bytes)
