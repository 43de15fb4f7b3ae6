-- The grammar of numbers (RFC 8259, section 6): an optional minus, `0` or a digit 1 to 9 followed by
-- digits, an optional fraction, an optional exponent.
use Rattle.std.specs.Prelude.{◌≡◌, ℕ, ◌≤◌, ◌<◌, ◌^◌, ◌⊎◌, ◌≢◌, ℤ, pos, negsuc, neg_ℤ, Bool, true, false, cond, List, [], ◌∷◌, ◌++◌, length}
use Rattle.std.specs.List.{AllByRecursion}
use Rattle.std.specs.Char.{IsAsciiDigit}
use Rattle.std.specs.Str.Parse.{digits_value}

-- the bytes of a minus, where there is one
abbrev pub minus : Bool → List ℕ
minus true = 0x2d ∷ []
minus false = []

-- the integer of n, with a minus or without
abbrev pub signed : Bool → ℕ → ℤ
signed b n = cond b (neg_ℤ (pos n)) (pos n)

-- from -2^63 to 2^64 - 1; `negsuc n` is -(n + 1)
abbrev pub IsInRange : ℤ → Type 0
IsInRange (pos n) = n < 2 ^ 64
IsInRange (negsuc n) = n < 2 ^ 63

-- one digit or more
abbrev pub IsDigits : List ℕ → Type 0
IsDigits ds = (0 < length ds) × AllByRecursion IsAsciiDigit ds

-- `0`, or a digit 1 to 9 followed by digits
abbrev pub IsWhole : List ℕ → Type 0
IsWhole ds = (ds ≡ 0x30 ∷ []) ⊎ ((d : ℕ) × (others : List ℕ) × (ds ≡ d ∷ others) × (0x31 ≤ d) × (d ≤ 0x39) × AllByRecursion IsAsciiDigit others)

-- nothing, or a point and digits
abbrev pub IsFraction : List ℕ → Type 0
IsFraction bs = (bs ≡ []) ⊎ ((ds : List ℕ) × (bs ≡ 0x2e ∷ ds) × IsDigits ds)

-- nothing, or `e` or `E`, a plus, a minus or neither, and digits
abbrev pub IsExponent : List ℕ → Type 0
IsExponent bs = (bs ≡ []) ⊎ ((e : ℕ) × (sign ds : List ℕ) × (bs ≡ e ∷ (sign ++ ds)) × ((e ≡ 0x65) ⊎ (e ≡ 0x45)) × ((sign ≡ []) ⊎ ((sign ≡ 0x2b ∷ []) ⊎ (sign ≡ 0x2d ∷ []))) × IsDigits ds)

-- A number without fraction and exponent spells this integer.
pub record SpellsInteger (n : ℤ) (bs : List ℕ) : Type 0 where
  pub negative : Bool
  pub whole : List ℕ
  pub parts : bs ≡ minus negative ++ whole
  pub is_whole : IsWhole whole
  pub value : n ≡ signed negative (digits_value 10 whole)

-- A decimal literal: a number with a fraction or an exponent, or an integer out of range.
pub record IsDecimal (bs : List ℕ) : Type 0 where
  pub negative : Bool
  pub whole : List ℕ
  pub fraction : List ℕ
  pub exponent : List ℕ
  pub parts : bs ≡ minus negative ++ (whole ++ (fraction ++ exponent))
  pub is_whole : IsWhole whole
  pub is_fraction : IsFraction fraction
  pub is_exponent : IsExponent exponent
  pub is_kept : IsInRange (signed negative (digits_value 10 whole)) → fraction ++ exponent ≢ []
