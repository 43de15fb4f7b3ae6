-- One bit of a word, through each operation on words.
use Rattle.std.proofs.Common.{◌≡◌, ℕ, zero, suc, ◌+◌, ◌-◌, ◌*◌, ◌/◌, ◌%◌, ◌^◌, ◌<◌, ◌≤◌, min, max, Bool, true, false, not, ◌&&◌, ◌||◌, ◌==◌, refl, sym, ap, ◌∙◌, arith, w64, pow_pos, bit_and, bit_or, bit_xor}
use Rattle.std.specs.Int.{bit_at}
use Rattle.std.proofs.lemmas.Nat.Bits.{bit_at_and, bit_at_or, bit_at_xor, bit_at_not, bit_at-lt, bit_at-suc, bit_at-zero, bit_at_lowest, bit_at_cat_low, bit_at_cat_high, bit_at_above}
use lib.Pow.{split, shr-shr}
use Rattle.sj_scan.specs.inside.Masks.{is_set, differ, first_if, all_if}

-- what holds of 0 and 1 holds of a bit
pub bit_cases : (P : ℕ → Type 0) → P 0 → P 1 → (n : ℕ) → n < 2 → P n
bit_cases P none one zero h = none
bit_cases P none one (suc zero) h = one
bit_cases P none one (suc (suc n)) h = absurd (omega arith)

two_bits : (P : ℕ → ℕ → Type 0) → P 0 0 → P 0 1 → P 1 0 → P 1 1 → (a b place : ℕ) → P (bit_at a place) (bit_at b place)
two_bits P p q r s a b place =
    bit_cases (λ x. P x (bit_at b place)) (bit_cases (P 0) p q (bit_at b place) (bit_at-lt b place)) (bit_cases (P 1) r s (bit_at b place) (bit_at-lt b place)) (bit_at a place) (bit_at-lt a place)

pub is_set-and : (a b place : ℕ) → is_set (bit_and a b) place ≡ (is_set a place && is_set b place)
unfolding is_set
is_set-and a b place = ap (λ n. n == 1) (bit_at_and a b place) ∙ two_bits (λ x y. (min x y == 1) ≡ ((x == 1) && (y == 1))) refl refl refl refl a b place

pub is_set-or : (a b place : ℕ) → is_set (bit_or a b) place ≡ (is_set a place || is_set b place)
unfolding is_set
is_set-or a b place = ap (λ n. n == 1) (bit_at_or a b place) ∙ two_bits (λ x y. (max x y == 1) ≡ ((x == 1) || (y == 1))) refl refl refl refl a b place

pub is_set-xor : (a b place : ℕ) → is_set (bit_xor a b) place ≡ differ (is_set a place) (is_set b place)
unfolding is_set
is_set-xor a b place = ap (λ n. n == 1) (bit_at_xor a b place) ∙ two_bits (λ x y. ((x + y) % 2 == 1) ≡ differ (x == 1) (y == 1)) refl refl refl refl a b place

pub is_set-not : (a place : ℕ) → a < 2 ^ 64 → place < 64 → is_set (2 ^ 64 - 1 - a) place ≡ not (is_set a place)
unfolding is_set
is_set-not a place fits within = ap (λ n. n == 1) (bit_at_not w64 a place fits within) ∙ bit_cases (λ x. (1 - x == 1) ≡ not (x == 1)) refl refl (bit_at a place) (bit_at-lt a place)

pub is_set-mod : (a place : ℕ) → place < 64 → is_set (a % 2 ^ 64) place ≡ is_set a place
unfolding is_set
is_set-mod a place within = ap (λ n. n == 1) (sym (bit_at_cat_low (a / 2 ^ 64) 64 (a % 2 ^ 64) place within) ∙ ap (λ n. bit_at n place) (split a 64))

-- a shift to the left, below the places that move in, and from them on
pub is_set-shl_low : (count a place : ℕ) → place < count → place < 64 → is_set (a * 2 ^ count % 2 ^ 64) place ≡ false
unfolding is_set
is_set-shl_low count a place low within =
    let same : a * 2 ^ count + 0 ≡ a * 2 ^ count = omega arith in
    is_set-mod (a * 2 ^ count) place within ∙ ap (λ n. n == 1) (ap (λ n. bit_at n place) (sym same) ∙ bit_at_cat_low a count 0 place low ∙ bit_at-zero place)

pub is_set-shl_high : (count a place : ℕ) → count ≤ place → place < 64 → is_set (a * 2 ^ count % 2 ^ 64) place ≡ is_set a (place - count)
unfolding is_set
is_set-shl_high count a place high within =
    let same : a * 2 ^ count + 0 ≡ a * 2 ^ count = omega arith in
    is_set-mod (a * 2 ^ count) place within ∙ ap (λ n. n == 1) (ap (λ n. bit_at n place) (sym same) ∙ bit_at_cat_high a count 0 place (pow_pos count) high)

pub is_set-shl_suc : (a place : ℕ) → suc place < 64 → is_set (a * 2 % 2 ^ 64) (suc place) ≡ is_set a place
is_set-shl_suc a place within =
    let same : suc place - 1 ≡ place = omega arith in
    is_set-shl_high 1 a (suc place) (omega arith) within ∙ ap (is_set a) same

pub is_set-shl_zero : (a : ℕ) → is_set (a * 2 % 2 ^ 64) 0 ≡ false
is_set-shl_zero a = is_set-shl_low 1 a 0 (omega arith) (omega arith)

-- the lowest bit, and the others as bits of the half
pub is_set-lowest : (a : ℕ) → is_set a 0 ≡ (a % 2 == 1)
unfolding is_set
is_set-lowest a = ap (λ n. n == 1) (bit_at_lowest a)

pub is_set-suc : (a place : ℕ) → is_set a (suc place) ≡ is_set (a / 2) place
unfolding is_set
is_set-suc a place = ap (λ n. n == 1) (bit_at-suc a place)

pub is_set-none : (place : ℕ) → is_set 0 place ≡ false
unfolding is_set
is_set-none place = ap (λ n. n == 1) (bit_at-zero place)

-- the bit of the last place, as a word
pub first_if-last : (a : ℕ) → a < 2 ^ 64 → a / 2 ^ 63 ≡ first_if (is_set a 63)
unfolding is_set
first_if-last a fits =
    let bit : a / 2 ^ 63 ≡ bit_at a 63 = omega arith in
    bit ∙ bit_cases (λ x. x ≡ first_if (x == 1)) refl refl (bit_at a 63) (bit_at-lt a 63)

-- a carry as a word
pub first_if-zero : (b : Bool) → is_set (first_if b) 0 ≡ b
unfolding is_set
first_if-zero true = refl
first_if-zero false = refl

pub first_if-suc : (b : Bool) (place : ℕ) → is_set (first_if b) (suc place) ≡ false
first_if-suc true place = is_set-suc 1 place ∙ is_set-none place
first_if-suc false place = is_set-none (suc place)

pub first_if-fits : (b : Bool) → first_if b < 2 ^ 64
first_if-fits true = omega arith
first_if-fits false = omega arith

pub is_set-all_if : (b : Bool) (place : ℕ) → place < 64 → is_set (all_if b) place ≡ b
is_set-all_if true place within = is_set-not 0 place (omega arith) within ∙ ap not (is_set-none place)
is_set-all_if false place within = is_set-none place

pub all_if-fits : (b : Bool) → all_if b < 2 ^ 64
all_if-fits true = omega arith
all_if-fits false = omega arith

-- a shift to the right
pub is_set-shr : (count a place : ℕ) → is_set (a / 2 ^ count) place ≡ is_set a (count + place)
unfolding is_set
is_set-shr count a place = ap (λ n. n % 2 == 1) (shr-shr a count place)

pub is_set-above : (a place : ℕ) → a < 2 ^ 64 → 64 ≤ place → is_set a place ≡ false
unfolding is_set
is_set-above a place fits above = ap (λ n. n == 1) (bit_at_above a 64 place fits above)
