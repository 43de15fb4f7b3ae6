-- Addition, one bit at a time.
use Rattle.std.proofs.Common.{◌≡◌, ℕ, zero, suc, ◌+◌, ◌/◌, ◌%◌, ◌^◌, ◌<◌, ◌==◌, Bool, true, false, ◌&&◌, ◌||◌, refl, sym, ap, ap₂, ◌∙◌, arith}
use Rattle.std.specs.Int.{bit_at}
use Rattle.std.proofs.lemmas.Nat.Bits.{bit_at-lt}
use lib.Pow.{shr-shr}
use native.Mathlib.Numerals.{add-one}
use Rattle.sj_scan.specs.inside.Masks.{is_set, differ, first_if}
use Rattle.sj_scan.proofs.Words.{bit_cases}

abbrev pub carried : Bool → Bool → Bool → Bool
carried a b c = (a && b) || (differ a b && c)

-- the carry into a place
unfoldable pub carry : ℕ → ℕ → ℕ → Bool
carry a b zero = false
carry a b (suc place) = carried (is_set a place) (is_set b place) (carry a b place)

-- two bits and a carry, for all eight cases
abbrev Column : ℕ → ℕ → Bool → Type 0
Column x y c = ((x + y + first_if c) / 2 ≡ first_if (carried (x == 1) (y == 1) c)) × (((x + y + first_if c) % 2 == 1) ≡ differ (differ (x == 1) (y == 1)) c)

column : (c : Bool) (x y : ℕ) → x < 2 → y < 2 → Column x y c
column true x y hx hy = bit_cases (λ m. Column m y true) (bit_cases (λ n. Column 0 n true) (refl, refl) (refl, refl) y hy) (bit_cases (λ n. Column 1 n true) (refl, refl) (refl, refl) y hy) x hx
column false x y hx hy = bit_cases (λ m. Column m y false) (bit_cases (λ n. Column 0 n false) (refl, refl) (refl, refl) y hy) (bit_cases (λ n. Column 1 n false) (refl, refl) (refl, refl) y hy) x hx

halved : (n place : ℕ) → n / 2 ^ suc place ≡ n / 2 ^ place / 2
halved n place = ap (λ k. n / 2 ^ k) (sym (add-one place)) ∙ sym (shr-shr n place 1)

-- from a place on
sum-top : (a b place : ℕ) → (a / 2 ^ place % 2 + b / 2 ^ place % 2 + first_if (carry a b place)) / 2 ≡ first_if (carried (is_set a place) (is_set b place) (carry a b place))
unfolding is_set
sum-top a b place = (column (carry a b place) (bit_at a place) (bit_at b place) (bit_at-lt a place) (bit_at-lt b place)).0

sum-shr : (a b place : ℕ) → (a + b) / 2 ^ place ≡ a / 2 ^ place + b / 2 ^ place + first_if (carry a b place)
unfolding carry
sum-shr a b zero = omega arith
sum-shr a b (suc place) =
    let x = a / 2 ^ place in
    let y = b / 2 ^ place in
    let c = first_if (carry a b place) in
    let step : (x + y + c) / 2 ≡ x / 2 + y / 2 + (x % 2 + y % 2 + c) / 2 = omega arith in
    halved (a + b) place ∙ ap (λ n. n / 2) (sum-shr a b place) ∙ step
    ∙ ap₂ (λ m n. m + n) (ap₂ (λ m n. m + n) (sym (halved a place)) (sym (halved b place))) (sum-top a b place)

pub is_set-add : (a b place : ℕ) → is_set (a + b) place ≡ differ (differ (is_set a place) (is_set b place)) (carry a b place)
unfolding is_set
is_set-add a b place =
    let x = a / 2 ^ place in
    let y = b / 2 ^ place in
    let c = first_if (carry a b place) in
    let low : (x + y + c) % 2 ≡ (x % 2 + y % 2 + c) % 2 = omega arith in
    ap (λ n. n == 1) (ap (λ n. n % 2) (sum-shr a b place) ∙ low) ∙ (column (carry a b place) (bit_at a place) (bit_at b place) (bit_at-lt a place) (bit_at-lt b place)).1
