-- Which texts are numbers (RFC 8259, section 6), as tests.
use Rattle.std.specs.Prelude.{ℕ, Bool, true, false, not, ◌&&◌, ◌||◌, ◌==◌, nat_le, nat_lt, ◌^◌, if◌then◌else◌, List, [], ◌∷◌, ℤ}
use Rattle.std.specs.Char.{is_ascii_digit}
use Rattle.std.specs.Str.{all_ascii_digits}
use Rattle.std.specs.Str.Parse.{digits_value}
use Rattle.sj_base.specs.Number.{signed}

abbrev pub is_empty : List ℕ → Bool
is_empty [] = true
is_empty (b ∷ bs) = false

-- a minus stands in front
abbrev pub is_negative : List ℕ → Bool
is_negative [] = false
is_negative (b ∷ bs) = b == 0x2d

-- without a minus in front
abbrev pub magnitude : List ℕ → List ℕ
magnitude [] = []
magnitude (b ∷ bs) = if b == 0x2d then bs else b ∷ bs

-- without a plus or a minus in front
abbrev pub unsigned : List ℕ → List ℕ
unsigned [] = []
unsigned (b ∷ bs) = if b == 0x2b || b == 0x2d then bs else b ∷ bs

-- the digits in front, and what stands behind them
abbrev pub front_digits : List ℕ → List ℕ
front_digits [] = []
front_digits (b ∷ bs) = if is_ascii_digit b then b ∷ front_digits bs else []

abbrev pub behind_digits : List ℕ → List ℕ
behind_digits [] = []
behind_digits (b ∷ bs) = if is_ascii_digit b then behind_digits bs else b ∷ bs

-- one digit or more
abbrev pub is_digits : List ℕ → Bool
is_digits ds = not (is_empty ds) && all_ascii_digits ds

-- `0`, or a digit 1 to 9 followed by digits
abbrev pub is_whole : List ℕ → Bool
is_whole [] = false
is_whole (d ∷ ds) = is_ascii_digit d && all_ascii_digits ds && (is_empty ds || not (d == 0x30))

-- `e` or `E`, a plus, a minus or neither, and digits
abbrev pub is_exponent : List ℕ → Bool
is_exponent [] = false
is_exponent (e ∷ bs) = (e == 0x65 || e == 0x45) && is_digits (unsigned bs)

-- digits, with an exponent behind them or without one
abbrev pub is_behind_point : List ℕ → Bool
is_behind_point bs = is_digits (front_digits bs) && (is_empty (behind_digits bs) || is_exponent (behind_digits bs))

-- a fraction, an exponent, or a fraction and an exponent
abbrev pub is_fraction_or_exponent : List ℕ → Bool
is_fraction_or_exponent [] = false
is_fraction_or_exponent (b ∷ bs) = if b == 0x2e then is_behind_point bs else is_exponent (b ∷ bs)

-- from -2^63 to 2^64 - 1
abbrev pub is_in_range : Bool → ℕ → Bool
is_in_range negative n = if negative then nat_le n (2 ^ 63) else nat_lt n (2 ^ 64)

-- what stands behind the digits of a number that is kept as text: a fraction or an exponent, or nothing if they are out of range
abbrev pub is_kept_by : Bool → List ℕ → List ℕ → Bool
is_kept_by negative digits [] = not (is_in_range negative (digits_value 10 digits))
is_kept_by negative digits (b ∷ bs) = is_fraction_or_exponent (b ∷ bs)

-- a number with a fraction or an exponent, or an integer out of range
abbrev pub is_decimal : List ℕ → Bool
is_decimal bs = is_whole (front_digits (magnitude bs)) && is_kept_by (is_negative bs) (front_digits (magnitude bs)) (behind_digits (magnitude bs))

abbrev pub is_integer : List ℕ → Bool
is_integer bs = is_whole (magnitude bs) && is_in_range (is_negative bs) (digits_value 10 (magnitude bs))

abbrev pub integer_value : List ℕ → ℤ
integer_value bs = signed (is_negative bs) (digits_value 10 (magnitude bs))

abbrev pub is_number : List ℕ → Bool
is_number bs = is_integer bs || is_decimal bs
