-- The subtraction that finds the bytes behind runs of backslashes of odd length.
use Rattle.std.proofs.Common.{◌≡◌, ℕ, zero, suc, ◌+◌, ◌-◌, ◌*◌, ◌%◌, ◌^◌, ◌<◌, Bool, true, false, not, ◌&&◌, ◌||◌, refl, sym, ap, ap₂, ◌∙◌, arith, pow_pos, mod-lt, bit_and, bit_or, bit_xor}
use Rattle.std.proofs.lemmas.Bool.{agree_below_at, false≢true}
use Rattle.sj_scan.specs.inside.Masks.{is_set, Marks, differ, first_if, is_odd_run}
use Rattle.sj_scan.proofs.Words.{is_set-mod, is_set-none, is_set-shl_suc, is_set-shl_zero}
use Rattle.sj_scan.proofs.Marks.{Marks-itself, Marks-agree, Marks-and, Marks-or, Marks-xor, Marks-not, Marks-first_if}
use Rattle.sj_scan.proofs.Sums.{carry, carried, is_set-add}

abbrev odd_places : ℕ
odd_places = 0xaaaa_aaaa_aaaa_aaaa

is_set-odd_places : (place : ℕ) → place < 63 → is_set odd_places (suc place) ≡ not (is_set odd_places place)
unfolding is_set
is_set-odd_places place within = agree_below_at (λ n. is_set odd_places (suc n)) (λ n. not (is_set odd_places n)) 63 place refl within

odd_places-zero : is_set odd_places 0 ≡ false
unfolding is_set
odd_places-zero = refl

-- At a place: it is behind a backslash; behind an odd run; its number is odd; it holds a backslash.
-- The borrow of the subtraction, and the bit of its result from it.
abbrev borrow : Bool → Bool → Bool → Bool
borrow behind run odd = differ (behind && not odd) run

abbrev result : Bool → Bool → Bool → Bool → Bool
result behind run odd slash = differ (differ (behind || odd) slash) (borrow behind run odd)

-- a run of odd length is a run
abbrev OnlyBehind : Bool → Bool → Type 0
OnlyBehind behind run = (run && not behind) ≡ false

next_borrow : (behind run odd slash : Bool) → OnlyBehind behind run → carried (result behind run odd slash) slash (borrow behind run odd) ≡ borrow slash (slash && not run) (not odd)
next_borrow true true true true only = refl
next_borrow true true true false only = refl
next_borrow true true false true only = refl
next_borrow true true false false only = refl
next_borrow true false true true only = refl
next_borrow true false true false only = refl
next_borrow true false false true only = refl
next_borrow true false false false only = refl
next_borrow false true odd slash only = absurd (false≢true (sym only))
next_borrow false false true true only = refl
next_borrow false false true false only = refl
next_borrow false false false true only = refl
next_borrow false false false false only = refl

next_only : (slash run : Bool) → OnlyBehind slash (slash && not run)
next_only true true = refl
next_only true false = refl
next_only false run = refl

-- what the exclusive or with the odd places leaves
code : (behind run odd slash : Bool) → OnlyBehind behind run → differ (result behind run odd slash) odd ≡ differ slash run
code true true true true only = refl
code true true true false only = refl
code true true false true only = refl
code true true false false only = refl
code true false true true only = refl
code true false true false only = refl
code true false false true only = refl
code true false false false only = refl
code false true odd slash only = absurd (false≢true (sym only))
code false false true true only = refl
code false false true false only = refl
code false false false true only = refl
code false false false false only = refl

-- a bit of the difference, from the sum that it is a part of
from_sum : (d s c m : Bool) → differ (differ d s) c ≡ m → d ≡ differ (differ m s) c
from_sum true true true m sum = rw (← sum) refl
from_sum true true false m sum = rw (← sum) refl
from_sum true false true m sum = rw (← sum) refl
from_sum true false false m sum = rw (← sum) refl
from_sum false true true m sum = rw (← sum) refl
from_sum false true false m sum = rw (← sum) refl
from_sum false false true m sum = rw (← sum) refl
from_sum false false false m sum = rw (← sum) refl

module _ (live : ℕ) (fits : live < 2 ^ 64) where
  slash : ℕ → Bool
  slash place = is_set live place

  behind : ℕ → Bool
  behind zero = false
  behind (suc place) = is_set live place

  run : ℕ → Bool
  run place = is_odd_run false (is_set live) place

  odd : ℕ → Bool
  odd place = is_set odd_places place

  abbrev follows : ℕ
  follows = bit_or (live * 2 % 2 ^ 64) odd_places

  abbrev difference : ℕ
  difference = (follows + (2 ^ 64 - live)) % 2 ^ 64

  moved : (place : ℕ) → place < 64 → is_set (live * 2 % 2 ^ 64) place ≡ behind place
  unfolding behind
  moved zero within = is_set-shl_zero live
  moved (suc place) within = is_set-shl_suc live place within

  Marks-moved : Marks (live * 2 % 2 ^ 64) behind
  Marks-moved = record { fits = mod-lt (live * 2) (pow_pos 64); bits = moved }

  Marks-follows : Marks follows (λ place. behind place || odd place)
  unfolding odd
  Marks-follows = Marks-or Marks-moved (Marks-itself odd_places (omega arith))

  added : (place : ℕ) → place < 64 → is_set (difference + live) place ≡ (behind place || odd place)
  added place within =
      let low = Marks-follows.fits in
      let same : (difference + live) % 2 ^ 64 ≡ follows = omega arith in
      sym (is_set-mod (difference + live) place within) ∙ ap (λ n. is_set n place) same ∙ Marks-follows.bits place within

  only : (place : ℕ) → OnlyBehind (behind place) (run place)
  unfolding behind run is_odd_run
  only zero = refl
  only (suc place) = next_only (is_set live place) (is_odd_run false (is_set live) place)

  difference-bit : (place : ℕ) → place < 64 → carry difference live place ≡ borrow (behind place) (run place) (odd place)
      → is_set difference place ≡ result (behind place) (run place) (odd place) (slash place)
  unfolding slash
  difference-bit place within borrows =
      from_sum (is_set difference place) (is_set live place) (carry difference live place) (behind place || odd place) (sym (is_set-add difference live place) ∙ added place within)
      ∙ ap (differ (differ (behind place || odd place) (is_set live place))) borrows

  borrows : (place : ℕ) → place < 64 → carry difference live place ≡ borrow (behind place) (run place) (odd place)
  unfolding carry behind run odd slash is_odd_run
  borrows zero within = ap (λ b. borrow false false b) (sym odd_places-zero)
  borrows (suc place) within =
      let before : place < 64 = omega arith in
      ap₂ (λ d c. carried d (is_set live place) c) (difference-bit place before (borrows place before)) (borrows place before)
      ∙ next_borrow (behind place) (run place) (odd place) (is_set live place) (only place)
      ∙ ap (borrow (is_set live place) (is_set live place && not (is_odd_run false (is_set live) place))) (sym (is_set-odd_places place (omega arith)))

  pub Marks-codes : Marks (bit_xor difference odd_places) (λ place. differ (is_set live place) (is_odd_run false (is_set live) place))
  unfolding slash run odd
  Marks-codes =
      Marks-agree _ _ (λ place within. ap (λ d. differ d (odd place)) (difference-bit place within (borrows place within)) ∙ code (behind place) (run place) (odd place) (slash place) (only place))
      (Marks-xor (Marks-itself difference (mod-lt (follows + (2 ^ 64 - live)) (pow_pos 64))) (Marks-itself odd_places (omega arith)))

first_escaped : (slash odd : Bool) → differ (differ (slash && not odd) false) (slash || odd) ≡ odd
first_escaped true true = refl
first_escaped true false = refl
first_escaped false true = refl
first_escaped false false = refl

later_escaped : (slash run : Bool) → differ (differ slash run) (slash || false) ≡ run
later_escaped true true = refl
later_escaped true false = refl
later_escaped false true = refl
later_escaped false false = refl

escapes : (slash run : Bool) → (differ slash run && slash) ≡ (slash && not run)
escapes true true = refl
escapes true false = refl
escapes false true = refl
escapes false false = refl

and-true : (b : Bool) → (b && true) ≡ b
and-true true = refl
and-true false = refl

-- with what comes before the block
module _ (backslashes : ℕ) (odd : Bool) (fits : backslashes < 2 ^ 64) where
  abbrev pub live : ℕ
  live = bit_and backslashes (2 ^ 64 - 1 - first_if odd)

  abbrev pub codes : ℕ
  codes = bit_xor ((bit_or (live * 2 % 2 ^ 64) odd_places + (2 ^ 64 - live)) % 2 ^ 64) odd_places

  no_later : Bool → ℕ → Bool
  no_later first zero = first
  no_later first (suc place) = false

  Marks-carry : Marks (first_if odd) (no_later odd)
  unfolding no_later
  Marks-carry = Marks-first_if odd (no_later odd) refl (λ place within. refl)

  Marks-live : Marks live (λ place. is_set backslashes place && not (no_later odd place))
  Marks-live = Marks-and (Marks-itself backslashes fits) (Marks-not Marks-carry)

  live-suc : (place : ℕ) → suc place < 64 → is_set live (suc place) ≡ is_set backslashes (suc place)
  unfolding no_later
  live-suc place within = Marks-live.bits (suc place) within ∙ and-true (is_set backslashes (suc place))

  live-zero : is_set live 0 ≡ (is_set backslashes 0 && not odd)
  unfolding no_later
  live-zero = Marks-live.bits 0 (omega arith)

  run-live : (place : ℕ) → place < 64 → is_odd_run false (is_set live) (suc place) ≡ is_odd_run odd (is_set backslashes) (suc place)
  unfolding is_odd_run
  run-live zero within = and-true (is_set live 0) ∙ live-zero
  run-live (suc place) within = ap₂ (λ s r. s && not r) (live-suc place within) (run-live place (omega arith))

  Marks-live_codes : Marks codes (λ place. differ (is_set live place) (is_odd_run false (is_set live) place))
  Marks-live_codes = Marks-codes live Marks-live.fits

  escaped-at : (place : ℕ) → place < 64 → differ (differ (is_set live place) (is_odd_run false (is_set live) place)) (is_set backslashes place || no_later odd place) ≡ is_odd_run odd (is_set backslashes) place
  unfolding no_later is_odd_run
  escaped-at zero within = ap (λ s. differ (differ s false) (is_set backslashes 0 || odd)) live-zero ∙ first_escaped (is_set backslashes 0) odd
  escaped-at (suc place) within =
      ap₂ (λ s r. differ (differ s r) (is_set backslashes (suc place) || false)) (live-suc place within) (run-live place (omega arith))
      ∙ later_escaped (is_set backslashes (suc place)) (is_odd_run odd (is_set backslashes) (suc place))

  pub Marks-escaped : Marks (bit_xor codes (bit_or backslashes (first_if odd))) (is_odd_run odd (is_set backslashes))
  Marks-escaped = Marks-agree _ _ escaped-at (Marks-xor Marks-live_codes (Marks-or (Marks-itself backslashes fits) Marks-carry))

  pub last-escaped : is_set (bit_and codes backslashes) 63 ≡ is_odd_run odd (is_set backslashes) 64
  unfolding is_odd_run
  last-escaped =
      (Marks-and Marks-live_codes (Marks-itself backslashes fits)).bits 63 (omega arith)
      ∙ ap₂ (λ s r. differ s r && is_set backslashes 63) (live-suc 62 (omega arith)) (run-live 62 (omega arith))
      ∙ escapes (is_set backslashes 63) (is_odd_run odd (is_set backslashes) 63)

-- without backslashes
pub Marks-none_escaped : (odd : Bool) → Marks (first_if odd) (is_odd_run odd (is_set 0))
unfolding is_odd_run
Marks-none_escaped odd = Marks-first_if odd (is_odd_run odd (is_set 0)) refl (λ place within. ap (λ s. s && not (is_odd_run odd (is_set 0) place)) (is_set-none place))

pub last-none_escaped : (odd : Bool) → false ≡ is_odd_run odd (is_set 0) 64
unfolding is_odd_run
last-none_escaped odd = ap (λ s. s && not (is_odd_run odd (is_set 0) 63)) (sym (is_set-none 63))
