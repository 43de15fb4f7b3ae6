-- Where the tokens of a text begin (RFC 8259, section 2), told for one place at a time from the bytes before it.
-- `before` holds these bytes with the nearest one first.
use Rattle.std.specs.Prelude.{ℕ, zero, suc, Bool, true, false, not, ◌&&◌, ◌||◌, ◌==◌, if◌then◌else◌, List, [], ◌∷◌, length, reverse, take, filter, slice_index}
use Rattle.std.specs.List.{range_with_len}

abbrev pub is_odd : ℕ → Bool
is_odd zero = false
is_odd (suc n) = not (is_odd n)

-- space, tab, line feed, carriage return
abbrev pub is_whitespace : ℕ → Bool
is_whitespace b = b == 0x20 || b == 0x09 || b == 0x0a || b == 0x0d

-- `{`, `}`, `[`, `]`, `:`, `,`
abbrev pub is_operator : ℕ → Bool
is_operator b = b == 0x7b || b == 0x7d || b == 0x5b || b == 0x5d || b == 0x3a || b == 0x2c

-- the length of the run of backslashes that ends directly before the place
abbrev pub backslashes : List ℕ → ℕ
backslashes [] = 0
backslashes (b ∷ before) = if b == 0x5c then suc (backslashes before) else 0

-- A quote is real where that run has even length, also outside strings.
abbrev pub is_real_quote : List ℕ → ℕ → Bool
is_real_quote before b = b == 0x22 && not (is_odd (backslashes before))

-- how many real quotes stand before the place
abbrev pub real_quotes : List ℕ → ℕ
real_quotes [] = 0
real_quotes (b ∷ before) = if is_real_quote before b then suc (real_quotes before) else real_quotes before

-- Real quotes open and close in turn.
abbrev pub is_opening_quote : List ℕ → ℕ → Bool
is_opening_quote before b = is_real_quote before b && not (is_odd (real_quotes before))

abbrev pub is_closing_quote : List ℕ → ℕ → Bool
is_closing_quote before b = is_real_quote before b && is_odd (real_quotes before)

-- The bytes between an opening quote and its closing one, or the end where it has none, are a string body.
abbrev pub is_in_body : List ℕ → ℕ → Bool
is_in_body before b = is_odd (real_quotes before) && not (is_real_quote before b)

-- Nothing, whitespace, an operator or a real quote stands directly before the place.
abbrev pub is_separated : List ℕ → Bool
is_separated [] = true
is_separated (b ∷ before) = is_whitespace b || is_operator b || is_real_quote before b

abbrev pub is_position : List ℕ → ℕ → Bool
is_position before b =
    not (is_in_body before b) && not (is_whitespace b) && not (is_closing_quote before b)
    && (is_operator b || is_opening_quote before b || is_separated before)

-- the bytes before a place, the nearest first
abbrev pub before : List ℕ → ℕ → List ℕ
before bytes place = reverse (take place bytes)

abbrev pub places : List ℕ → List ℕ
places bytes = range_with_len 0 (length bytes)

abbrev pub is_position_at : List ℕ → ℕ → Bool
is_position_at bytes place = is_position (before bytes place) (slice_index bytes place)

-- the places at which tokens begin, in rising order
abbrev pub positions : List ℕ → List ℕ
positions bytes = filter (is_position_at bytes) (places bytes)
