-- The places of a mask's bits: the lowest comes first, and there are as many as bits.
use Rattle.std.proofs.Common.{◌≡◌, ℕ, zero, suc, ◌+◌, ◌-◌, ◌*◌, ◌/◌, ◌%◌, ◌^◌, ◌<◌, ◌≤◌, min, Bool, true, cond, not, ◌||◌, ◌==◌, List, [], ◌∷◌, ◌++◌, length, filter, refl, sym, ap, ap₂, subst, ◌∙◌, arith, pow-suc, mod-lt, zero-lt-suc, append_assoc, append-nil, bit_and, length-take, ◌⊎◌, inl, inr}
use Rattle.std.proofs.lemmas.Bool.{ne_eqb, cases_lt}
use Rattle.std.proofs.lemmas.List.{take-append-le}
use Rattle.std.specs.List.{range_with_len, list_any}
use lib.Bits.{and_step, and_self}
use lib.Count.{count_trailing_zeros, ones, ones_step, under}
use Rattle.sj_scan.specs.inside.Masks.{is_set, set_places, IsPrefix}
use Rattle.sj_scan.proofs.Words.{bit_cases, is_set-lowest, is_set-suc}

-- without the lowest bit
abbrev pub others : ℕ → ℕ
others mask = bit_and mask (mask - 1)

pub set_places-none : (count base : ℕ) → set_places count base 0 ≡ []
unfolding set_places
set_places-none zero base = refl
set_places-none (suc count) base = set_places-none count (base + 1)

others-odd : (half : ℕ) → others (half * 2 + 1) ≡ half * 2
others-odd half =
    let mask = half * 2 + 1 in
    let quotient : mask / 2 ≡ half = omega arith in
    let quotient_less : (mask - 1) / 2 ≡ half = omega arith in
    let low : min (mask % 2) ((mask - 1) % 2) ≡ 0 = omega arith in
    let end : half * 2 + 0 ≡ half * 2 = omega arith in
    and_step mask (mask - 1) ∙ ap₂ (λ h r. h * 2 + r) (ap₂ bit_and quotient quotient_less ∙ and_self half) low ∙ end

others-even : (half : ℕ) → 0 < half → others (half * 2) ≡ others half * 2
others-even half some =
    let mask = half * 2 in
    let quotient : mask / 2 ≡ half = omega arith in
    let quotient_less : (mask - 1) / 2 ≡ half - 1 = omega arith in
    let low : min (mask % 2) ((mask - 1) % 2) ≡ 0 = omega arith in
    let end : others half * 2 + 0 ≡ others half * 2 = omega arith in
    and_step mask (mask - 1) ∙ ap₂ (λ h r. h * 2 + r) (ap₂ bit_and quotient quotient_less) low ∙ end

places-even : (count base half : ℕ) → set_places (suc count) base (half * 2) ≡ set_places count (base + 1) half
unfolding set_places
places-even count base half =
    let low : half * 2 % 2 ≡ 0 = omega arith in
    let quotient : half * 2 / 2 ≡ half = omega arith in
    ap₂ (λ r h. cond (r == 1) (base ∷ set_places count (base + 1) h) (set_places count (base + 1) h)) low quotient

places-odd : (count base half : ℕ) → set_places (suc count) base (half * 2 + 1) ≡ base ∷ set_places count (base + 1) half
unfolding set_places
places-odd count base half =
    let low : (half * 2 + 1) % 2 ≡ 1 = omega arith in
    let quotient : (half * 2 + 1) / 2 ≡ half = omega arith in
    ap₂ (λ r h. cond (r == 1) (base ∷ set_places count (base + 1) h) (set_places count (base + 1) h)) low quotient

zeros-even : (count half : ℕ) → count_trailing_zeros (suc count) (half * 2) ≡ suc (count_trailing_zeros count half)
unfolding count_trailing_zeros
zeros-even count half =
    let low : half * 2 % 2 ≡ 0 = omega arith in
    let quotient : half * 2 / 2 ≡ half = omega arith in
    ap₂ (λ r h. under r (count_trailing_zeros count h)) low quotient

zeros-odd : (count half : ℕ) → count_trailing_zeros (suc count) (half * 2 + 1) ≡ 0
unfolding count_trailing_zeros
zeros-odd count half =
    let low : (half * 2 + 1) % 2 ≡ 1 = omega arith in
    ap (λ r. under r (count_trailing_zeros count ((half * 2 + 1) / 2))) low

-- a number is twice its half, or one more
halves : (P : ℕ → Type 0) → ((half : ℕ) → P (half * 2)) → ((half : ℕ) → P (half * 2 + 1)) → (n : ℕ) → P n
halves P even odd n =
    bit_cases (λ r. n ≡ n / 2 * 2 + r → P n)
    (λ is. let same : n / 2 * 2 ≡ n = omega arith in subst P same (even (n / 2)))
    (λ is. let same : n / 2 * 2 + 1 ≡ n = omega arith in subst P same (odd (n / 2)))
    (n % 2) (mod-lt n (zero-lt-suc 1)) (omega arith)

pub set_places-lowest : (count base mask : ℕ) → 0 < mask → mask < 2 ^ count → set_places count base mask ≡ (base + count_trailing_zeros count mask) ∷ set_places count base (others mask)
set_places-lowest zero base mask some fits = absurd (omega arith)
set_places-lowest (suc count) base mask some fits = halves (λ n. 0 < n → n < 2 ^ count * 2 → Lowest n) (even (set_places-lowest count (base + 1))) odd mask some (let double = pow-suc 2 count in omega arith)
  where
    Lowest : ℕ → Type 0
    Lowest n = set_places (suc count) base n ≡ (base + count_trailing_zeros (suc count) n) ∷ set_places (suc count) base (others n)

    odd : (half : ℕ) → 0 < half * 2 + 1 → half * 2 + 1 < 2 ^ count * 2 → Lowest (half * 2 + 1)
    odd half some fits =
        let here : base ≡ base + 0 = omega arith in
        places-odd count base half
        ∙ ap₂ (λ p ps. p ∷ ps) (here ∙ ap (λ z. base + z) (sym (zeros-odd count half))) (sym (ap (set_places (suc count) base) (others-odd half) ∙ places-even count base half))

    even : ((half : ℕ) → 0 < half → half < 2 ^ count → set_places count (base + 1) half ≡ (base + 1 + count_trailing_zeros count half) ∷ set_places count (base + 1) (others half))
        → (half : ℕ) → 0 < half * 2 → half * 2 < 2 ^ count * 2 → Lowest (half * 2)
    even below half some fits =
        let z = count_trailing_zeros count half in
        let here : base + 1 + z ≡ base + suc z = omega arith in
        places-even count base half ∙ below half (omega arith) (omega arith)
        ∙ ap₂ (λ p ps. p ∷ ps) (here ∙ ap (λ z. base + z) (sym (zeros-even count half)))
        (sym (ap (set_places (suc count) base) (others-even half (omega arith)) ∙ places-even count base (others half)))

pub length-set_places : (count base mask : ℕ) → mask < 2 ^ count → length (set_places count base mask) ≡ ones mask
unfolding set_places ones
length-set_places zero base mask fits = let none : 0 ≡ mask = omega arith in ap ones none
length-set_places (suc count) base mask fits =
    let double = pow-suc 2 count in
    let rest = set_places count (base + 1) (mask / 2) in
    bit_cases (λ r. length (cond (r == 1) (base ∷ rest) rest) ≡ r + length rest) (omega arith) (omega arith) (mask % 2) (mod-lt mask (zero-lt-suc 1))
    ∙ ap (λ n. mask % 2 + n) (length-set_places count (base + 1) (mask / 2) (omega arith)) ∙ sym (ones_step mask)

-- Where each bit is the test at its place, the places are those that pass, and a mask is 0 where none passes.
pub set_places-filter : (test : ℕ → Bool) (count base mask : ℕ) → ((place : ℕ) → place < count → is_set mask place ≡ test (base + place)) → set_places count base mask ≡ filter test (range_with_len base count)
unfolding set_places
set_places-filter test zero base mask bits = refl
set_places-filter test (suc count) base mask bits =
    let here : base + 0 ≡ base = omega arith in
    ap₂ (λ (b : Bool) (ps : List ℕ). cond b (base ∷ ps) ps)
    (sym (is_set-lowest mask) ∙ bits 0 (omega arith) ∙ ap test here)
    (set_places-filter test count (base + 1) (mask / 2) (λ place within.
    let same : base + suc place ≡ base + 1 + place = omega arith in
    sym (is_set-suc mask place) ∙ bits (suc place) (omega arith) ∙ ap test same))

some-half : (n : ℕ) → not (n == 0) ≡ ((n % 2 == 1) || not (n / 2 == 0))
some-half zero = refl
some-half (suc n) =
    ap not (ne_eqb (suc n) 0 (λ none. omega arith))
    ∙ sym (bit_cases (λ r. suc n % 2 ≡ r → ((r == 1) || not (suc n / 2 == 0)) ≡ true) (λ even. ap not (ne_eqb (suc n / 2) 0 (λ none. omega arith))) (λ odd. refl) (suc n % 2) (mod-lt (suc n) (zero-lt-suc 1)) refl)

pub any_set : (test : ℕ → Bool) (count base mask : ℕ) → mask < 2 ^ count → ((place : ℕ) → place < count → is_set mask place ≡ test (base + place)) → not (mask == 0) ≡ list_any test (range_with_len base count)
any_set test zero base mask fits bits = let none : mask ≡ 0 = omega arith in ap (λ n. not (n == 0)) none
any_set test (suc count) base mask fits bits =
    let double = pow-suc 2 count in
    let here : base + 0 ≡ base = omega arith in
    some-half mask
    ∙ ap₂ (λ x y. x || y)
    (sym (is_set-lowest mask) ∙ bits 0 (omega arith) ∙ ap test here)
    (any_set test count (base + 1) (mask / 2) (omega arith) (λ place within.
    let same : base + suc place ≡ base + 1 + place = omega arith in
    sym (is_set-suc mask place) ∙ bits (suc place) (omega arith) ∙ ap test same))

-- what begins a list begins a longer one
IsPrefix-more : (front xs ys : List ℕ) → IsPrefix front xs → IsPrefix front (xs ++ ys)
IsPrefix-more front xs ys begins =
    let long = ap length begins in
    let short = length-take (length front) xs in
    take-append-le (length front) xs ys (omega arith) ∙ begins

-- The place of the lowest bit is one that is wanted, or junk behind all that are.
pub IsPrefix-lowest : (wanted found : List ℕ) (base mask : ℕ) → mask < 2 ^ 64 → IsPrefix wanted (found ++ set_places 64 base mask)
    → IsPrefix wanted ((found ++ (base + count_trailing_zeros 64 mask) ∷ []) ++ set_places 64 base (bit_and mask ((mask + (2 ^ 64 - 1)) % 2 ^ 64)))
IsPrefix-lowest wanted found base mask fits begins = go (cases_lt 0 mask)
  where
    place : ℕ
    place = base + count_trailing_zeros 64 mask

    go : (0 < mask) ⊎ (mask ≤ 0) → IsPrefix wanted ((found ++ place ∷ []) ++ set_places 64 base (bit_and mask ((mask + (2 ^ 64 - 1)) % 2 ^ 64)))
    go (inl some) =
        let less : (mask + (2 ^ 64 - 1)) % 2 ^ 64 ≡ mask - 1 = omega arith in
        let same = append_assoc found (place ∷ []) (set_places 64 base (bit_and mask ((mask + (2 ^ 64 - 1)) % 2 ^ 64)))
        ∙ ap (λ n. found ++ place ∷ set_places 64 base (bit_and mask n)) less ∙ ap (λ ps. found ++ ps) (sym (set_places-lowest 64 base mask some fits)) in
        subst (IsPrefix wanted) (sym same) begins
    go (inr none) =
        let zero_mask : mask ≡ 0 = omega arith in
        let before : IsPrefix wanted found = subst (IsPrefix wanted) (ap (λ n. found ++ set_places 64 base n) zero_mask ∙ ap (λ ps. found ++ ps) (set_places-none 64 base) ∙ append-nil found) begins in
        IsPrefix-more wanted (found ++ place ∷ []) (set_places 64 base (bit_and mask ((mask + (2 ^ 64 - 1)) % 2 ^ 64))) (IsPrefix-more wanted found (place ∷ []) before)
