-- Words of 64 bits, one bit for each byte of a block.
use Rattle.std.specs.Prelude.{◌≡◌, ℕ, zero, suc, ◌+◌, ◌/◌, ◌%◌, ◌^◌, ◌<◌, ◌==◌, Bool, false, not, ◌&&◌, if◌then◌else◌, List, [], ◌∷◌, length, take}
use Rattle.std.specs.Bool.{beq}
use Rattle.std.specs.Int.{bit_at}

-- whether the mask has the bit of the place
unfoldable pub is_set : ℕ → ℕ → Bool
is_set mask place = bit_at mask place == 1

-- The mask has the bits of the places that pass the test, and no others.
pub record Marks (mask : ℕ) (test : ℕ → Bool) : Type 0 where
  pub fits : mask < 2 ^ 64
  pub bits : (place : ℕ) → place < 64 → is_set mask place ≡ test place

-- the first bit, or none
abbrev pub first_if : Bool → ℕ
first_if b = if b then 1 else 0

-- all bits, or none
abbrev pub all_if : Bool → ℕ
all_if b = if b then 0xffff_ffff_ffff_ffff else 0

-- exclusive or
abbrev pub differ : Bool → Bool → Bool
differ a b = not (beq a b)

-- whether the run of passing places directly before a place has odd length; `start` says it of what comes before 0
unfoldable pub is_odd_run : Bool → (ℕ → Bool) → ℕ → Bool
is_odd_run start test zero = start
is_odd_run start test (suc place) = test place && not (is_odd_run start test place)

-- whether an odd number of the places before a place pass
unfoldable pub is_odd_count : (ℕ → Bool) → ℕ → Bool
is_odd_count test zero = false
is_odd_count test (suc place) = differ (is_odd_count test place) (test place)

-- the places of the set ones among the `count` lowest bits, where the lowest has place `base`
unfoldable pub set_places : ℕ → ℕ → ℕ → List ℕ
set_places zero base mask = []
set_places (suc count) base mask = if mask % 2 == 1 then base ∷ set_places count (base + 1) (mask / 2) else set_places count (base + 1) (mask / 2)

abbrev pub IsPrefix : List ℕ → List ℕ → Type 0
IsPrefix front xs = take (length front) xs ≡ front
