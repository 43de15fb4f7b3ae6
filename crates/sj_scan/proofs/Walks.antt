-- One more block of a walk, of whose bytes the text may have some alone: the others are spaces.
use Rattle.std.proofs.Common.{◌≡◌, ℕ, zero, suc, ◌+◌, ◌-◌, ◌*◌, ◌/◌, ◌%◌, ◌^◌, ◌<◌, ◌≤◌, Bool, true, false, not, ◌&&◌, ◌||◌, ◌==◌, List, ◌∷◌, ◌++◌, length, filter, All, slice_index, refl, sym, ap, ap₂, subst, ◌∙◌, arith, zero-add, add-zero, pow-suc, bit_or, ◌⊎◌, inl, inr, cond, drop, replicate, length-drop, get_or-drop, true≢false, pow_pos, div-lt_iff_lt-mul}
use Rattle.std.specs.List.{range_with_len, list_any}
use Rattle.std.specs.Int.{bit_at}
use Rattle.std.proofs.lemmas.Bool.{cases_eq, ne_eqb}
use Rattle.std.proofs.lemmas.Nat.{le_or_l}
use Rattle.std.proofs.lemmas.Nat.Bits.{bit_at-lt}
use Rattle.std.proofs.lemmas.List.Elements.{filter-append, All-cons, All-nil}
use Rattle.std.proofs.lemmas.List.Folds.{list_any-append}
use Rattle.std.proofs.lemmas.Simd.{get_or-chunk, get_or-replicate}
use Rattle.std.proofs.lemmas.List.{get_or_append_left, get_or-append_right}
use lib.Lanes.{chunk}
use Rattle.sj_scan.specs.Positions.{is_odd, real_quotes, is_separated, is_position, before}
use Rattle.sj_scan.specs.Scan.{is_control}
use Rattle.sj_scan.specs.inside.Masks.{is_set, Marks, set_places}
use Rattle.sj_scan.specs.inside.Blocks.{before_in, test_in, filled_up}
use Rattle.sj_scan.proofs.Places.{before-more}
use Rattle.sj_scan.proofs.Words.{bit_cases}
use Rattle.sj_scan.proofs.SetPlaces.{set_places-none, set_places-filter, any_set}

range_with_len-append : (from m n : ℕ) → range_with_len from (m + n) ≡ range_with_len from m ++ range_with_len (from + m) n
range_with_len-append from zero n = let same : from ≡ from + 0 = omega arith in let none : 0 + n ≡ n = omega arith in ap₂ range_with_len same none
range_with_len-append from (suc m) n =
    let more : suc m + n ≡ suc (m + n) = omega arith in
    let same : from + 1 + m ≡ from + suc m = omega arith in
    ap (range_with_len from) more ∙ ap (λ ps. from ∷ ps) (range_with_len-append (from + 1) m n ∙ ap (λ k. range_with_len (from + 1) m ++ range_with_len k n) same)

pub filter-range : (test : ℕ → Bool) (m n : ℕ) → filter test (range_with_len 0 m) ++ filter test (range_with_len m n) ≡ filter test (range_with_len 0 (m + n))
filter-range test m n = sym (ap (filter test) (range_with_len-append 0 m n) ∙ filter-append test (range_with_len 0 m) (range_with_len (0 + m) n) ∙ ap (λ k. filter test (range_with_len 0 m) ++ filter test (range_with_len k n)) (zero-add m))

pub list_any-range : (test : ℕ → Bool) (m n : ℕ) → (list_any test (range_with_len 0 m) || list_any test (range_with_len m n)) ≡ list_any test (range_with_len 0 (m + n))
list_any-range test m n = sym (ap (list_any test) (range_with_len-append 0 m n) ∙ list_any-append test (range_with_len 0 m) (range_with_len (0 + m) n) ∙ ap (λ k. list_any test (range_with_len 0 m) || list_any test (range_with_len k n)) (zero-add m))

-- a union is 0 where both are
pub or-zero : (a b : ℕ) → not (bit_or a b == 0) ≡ (not (a == 0) || not (b == 0))
or-zero a b = go (cases_eq a 0)
  where
    go : (a ≡ 0) ⊎ (a ≡ 0 → ⊥) → not (bit_or a b == 0) ≡ (not (a == 0) || not (b == 0))
    go (inl none) = rw none refl
    go (inr some) =
        let more = le_or_l a b in
        ap not (ne_eqb (bit_or a b) 0 (λ none. some (omega arith))) ∙ sym (ap (λ x. not x || not (b == 0)) (ne_eqb a 0 some))

-- without bits from a place on
small : (mask n extra : ℕ) → mask < 2 ^ (n + extra) → ((place : ℕ) → n ≤ place → place < n + extra → is_set mask place ≡ false) → mask < 2 ^ n
unfolding is_set
small mask n zero fits none = let same : n + 0 ≡ n = omega arith in subst (λ k. mask < 2 ^ k) same fits
small mask n (suc extra) fits none =
    let place = n + extra in
    let power = 2 ^ place in
    let more : n + suc extra ≡ suc place = omega arith in
    let double : mask < 2 * power = let wide = subst (λ k. mask < 2 ^ k) more fits in let twice = pow-suc 2 place in omega arith in
    let bit : mask / power % 2 ≡ 0 = bit_cases (λ x. (x == 1) ≡ false → x ≡ 0) (λ is. refl) (λ is. absurd (true≢false is)) (bit_at mask place) (bit_at-lt mask place) (none place (omega arith) (omega arith)) in
    let short : mask / power < 2 = (div-lt_iff_lt-mul (pow_pos place)).1 double in
    let shorter : mask / power < 1 = omega arith in
    let fits_below : mask < 1 * power = (div-lt_iff_lt-mul (pow_pos place)).0 shorter in
    small mask n extra (omega arith) (λ k from below. none k from (omega arith))

set_places-small : (n extra base mask : ℕ) → mask < 2 ^ n → set_places (n + extra) base mask ≡ set_places n base mask
unfolding set_places
set_places-small zero extra base mask fits = let none : mask ≡ 0 = omega arith in ap (set_places (0 + extra) base) none ∙ set_places-none (0 + extra) base
set_places-small (suc n) extra base mask fits =
    let more : suc n + extra ≡ suc (n + extra) = omega arith in
    let double = pow-suc 2 n in
    ap (λ count. set_places count base mask) more
    ∙ ap (λ ps. cond (mask % 2 == 1) (base ∷ ps) ps) (set_places-small n extra (base + 1) (mask / 2) (omega arith))

-- The first `n` bytes of the block are the text's from `at` on, and the others are spaces.
pub record IsFilled (bytes block : List ℕ) (at n : ℕ) : Type 0 where
  pub few : n ≤ 64
  pub within : at + n ≤ length bytes
  pub same : (place : ℕ) → place < n → slice_index block place ≡ slice_index bytes (at + place)
  pub spaces : (place : ℕ) → n ≤ place → place < 64 → slice_index block place ≡ 0x20

pub IsFilled-whole : (bytes : List ℕ) (at : ℕ) → at + 64 ≤ length bytes → IsFilled bytes (chunk at 64 bytes) at 64
IsFilled-whole bytes at within = record {
  few = omega arith;
  within = within;
  same = λ place below. get_or-chunk at 64 bytes place 0 below;
  spaces = λ place from below. absurd (omega arith);
}

pub IsFilled-rest : (bytes : List ℕ) (at : ℕ) → at ≤ length bytes → length bytes ≤ at + 64 → IsFilled bytes (filled_up (drop at bytes)) at (length bytes - at)
IsFilled-rest bytes at within last =
    let rest = drop at bytes in
    let long = length-drop at bytes in
    record {
      few = omega arith;
      within = omega arith;
      same = λ place below. get_or_append_left rest (replicate (64 - length rest) 0x20) 0 place (omega arith) ∙ get_or-drop at bytes place 0;
      spaces = λ place from below.
          get_or-append_right rest (replicate (64 - length rest) 0x20) (length bytes - at) place 0 long from
          ∙ get_or-replicate (64 - length rest) (place - (length bytes - at)) 0x20 0 (omega arith);
    }

module _ (bytes block : List ℕ) (at n : ℕ) (filled : IsFilled bytes block at n) where
  before_in-is : (place : ℕ) → place ≤ n → before_in (before bytes at) block place ≡ before bytes (at + place)
  unfolding before_in
  before_in-is zero below = ap (before bytes) (sym (add-zero at))
  before_in-is (suc place) below =
      let inside = filled.within in
      let next : at + place + 1 ≡ at + suc place = omega arith in
      ap₂ (λ b bs. b ∷ bs) (filled.same place (omega arith)) (before_in-is place (omega arith)) ∙ sym (before-more bytes (at + place) (omega arith)) ∙ ap (before bytes) next

  -- all of the block that is the text's
  pub before_in-all : n ≡ 64 → before_in (before bytes at) block 64 ≡ before bytes (at + 64)
  before_in-all full = ap (before_in (before bytes at) block) (sym full) ∙ before_in-is n (omega arith) ∙ ap (λ k. before bytes (at + k)) full

  module _ (test : List ℕ → ℕ → Bool) (blank : (before : List ℕ) → test before 0x20 ≡ false) (mask : ℕ) (marks : Marks mask (test_in test (before bytes at) block)) where
    abbrev test_at : ℕ → Bool
    test_at place = test (before bytes place) (slice_index bytes place)

    mask-small : mask < 2 ^ n
    mask-small =
        let few = filled.few in
        let whole : n + (64 - n) ≡ 64 = omega arith in
        small mask n (64 - n) (subst (λ k. mask < 2 ^ k) (sym whole) marks.fits) (λ place from below.
        marks.bits place (omega arith) ∙ ap (test (before_in (before bytes at) block place)) (filled.spaces place from (omega arith)) ∙ blank (before_in (before bytes at) block place))

    bits : (place : ℕ) → place < n → is_set mask place ≡ test_at (at + place)
    bits place below = let few = filled.few in marks.bits place (omega arith) ∙ ap₂ test (before_in-is place (omega arith)) (filled.same place below)

    pub set_places-is : set_places 64 at mask ≡ filter test_at (range_with_len at n)
    set_places-is =
        let few = filled.few in
        let whole : n + (64 - n) ≡ 64 = omega arith in
        ap (λ count. set_places count at mask) (sym whole) ∙ set_places-small n (64 - n) at mask mask-small ∙ set_places-filter test_at n at mask bits

    pub any_set-is : not (mask == 0) ≡ list_any test_at (range_with_len at n)
    any_set-is = any_set test_at n at mask mask-small bits

  real_quotes-spaces : (extra : ℕ) → n + extra ≤ 64 → real_quotes (before_in (before bytes at) block (n + extra)) ≡ real_quotes (before_in (before bytes at) block n)
  unfolding before_in
  real_quotes-spaces zero below = let end : n + 0 ≡ n = omega arith in ap (λ k. real_quotes (before_in (before bytes at) block k)) end
  real_quotes-spaces (suc extra) below =
      let next : n + suc extra ≡ suc (n + extra) = omega arith in
      let rest = before_in (before bytes at) block (n + extra) in
      ap (λ k. real_quotes (before_in (before bytes at) block k)) next ∙ ap (λ b. real_quotes (b ∷ rest)) (filled.spaces (n + extra) (omega arith) (omega arith)) ∙ real_quotes-spaces extra (omega arith)

  pub real_quotes-end : real_quotes (before_in (before bytes at) block 64) ≡ real_quotes (before bytes (at + n))
  real_quotes-end =
      let few = filled.few in
      let whole : n + (64 - n) ≡ 64 = omega arith in
      ap (λ k. real_quotes (before_in (before bytes at) block k)) (sym whole) ∙ real_quotes-spaces (64 - n) (omega arith) ∙ ap real_quotes (before_in-is n (omega arith))

-- A space is no position and no control character.
pub is_position-space : (before : List ℕ) → is_position before 0x20 ≡ false
is_position-space before = go (is_odd (real_quotes before)) (is_separated before)
  where
    go : (inside separated : Bool) → (((not (inside && true) && false) && true) && separated) ≡ false
    go true separated = refl
    go false separated = refl

pub is_control-space : (before : List ℕ) → is_control before 0x20 ≡ false
is_control-space before = refl

-- places below a bound, and how many
pub All-range : (from n bound : ℕ) → from + n ≤ bound → All (λ place. place < bound) (range_with_len from n)
All-range from zero bound fits = All-nil (λ place. place < bound)
All-range from (suc n) bound fits = All-cons (λ place. place < bound) from (range_with_len (from + 1) n) (omega arith) (All-range (from + 1) n bound (omega arith))

pub length-filter_range : (test : ℕ → Bool) (from n : ℕ) → length (filter test (range_with_len from n)) ≤ n
length-filter_range test from zero = omega arith
length-filter_range test from (suc n) = go (test from) (length-filter_range test (from + 1) n)
  where
    go : (passes : Bool) → length (filter test (range_with_len (from + 1) n)) ≤ n → length (cond passes (from ∷ filter test (range_with_len (from + 1) n)) (filter test (range_with_len (from + 1) n))) ≤ suc n
    go true few = omega arith
    go false few = omega arith
