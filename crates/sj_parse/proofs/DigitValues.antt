-- The value of digits that stand behind others.
use Rattle.std.specs.Prelude.{◌≡◌, ℕ, zero, suc, ◌+◌, ◌-◌, ◌*◌, ◌^◌, ◌<◌, ◌≤◌, true, List, [], ◌∷◌, length, take, drop}
use Rattle.std.specs.Char.{is_ascii_digit, digit_value, IsAsciiDigit}
use Rattle.std.specs.Str.{all_ascii_digits}
use Rattle.std.specs.Str.Parse.{digits_value, digits_value_after}
use Rattle.std.proofs.Common.{get_or, ap, arith}
use Rattle.std.proofs.lemmas.Bool.{and_parts}
use Rattle.std.proofs.lemmas.Str.{digit_value_digit}
use Rattle.std.proofs.lemmas.Str.Parse.{IsNumeralModel, numerals_by_value, tells_all_ascii_digits, digits_value_short}
use Rattle.sj_base.proofs.Literals.{from_test, AllDigits-from_test, all_digits-from_AllDigits}

pub own : IsNumeralModel (λ ds. all_ascii_digits ds ≡ true) (digits_value 10)
own = numerals_by_value (λ ds. all_ascii_digits ds ≡ true) tells_all_ascii_digits

pub few_digits : (ds : List ℕ) → all_ascii_digits ds ≡ true → length ds ≤ 19 → digits_value 10 ds < 2 ^ 64
few_digits ds all few = let small = digits_value_short own ds 19 all few in omega arith

after-ge : (n : ℕ) (ds : List ℕ) → n ≤ digits_value_after 10 n ds
after-ge n [] = omega arith
after-ge n (d ∷ ds) = omega (arith, after-ge (n * 10 + digit_value d) ds)

-- One digit more is read.
pub record Next (n i : ℕ) (ds : List ℕ) : Type 0 where
  pub digit : IsAsciiDigit (get_or ds i 0)
  pub others : all_ascii_digits (drop (suc i) ds) ≡ true
  pub value : digits_value_after 10 (n * 10 + (get_or ds i 0 - 48)) (drop (suc i) ds) ≡ digits_value_after 10 n (drop i ds)
  pub at_most : n * 10 + (get_or ds i 0 - 48) ≤ digits_value_after 10 n (drop i ds)

pub next : (n i : ℕ) (ds : List ℕ) → i < length ds → all_ascii_digits (drop i ds) ≡ true → Next n i ds
next n i [] some all = absurd (omega arith)
next n zero (d ∷ ds) some all =
    let p = and_parts (is_ascii_digit d) (all_ascii_digits ds) all in
    let digit = from_test d p.0 in
    let worth : d - 48 ≡ digit_value d = omega (arith, digit_value_digit d digit) in
    let value : digits_value_after 10 (n * 10 + (d - 48)) ds ≡ digits_value_after 10 n (d ∷ ds) = ap (λ (x : ℕ). digits_value_after 10 (n * 10 + x) ds) worth in
    record { digit = digit; others = p.1; value = value; at_most = omega (arith, value, after-ge (n * 10 + (d - 48)) ds) }
next n (suc i) (d ∷ ds) some all =
    let p = next n i ds (omega arith) all in
    record { digit = p.digit; others = p.others; value = p.value; at_most = p.at_most }

-- Eight digits more are read.
pub record NextEight (n : ℕ) (ds : List ℕ) : Type 0 where
  pub digits : all_ascii_digits (take 8 ds) ≡ true
  pub others : all_ascii_digits (drop 8 ds) ≡ true
  pub value : digits_value_after 10 (n * 100000000 + digits_value 10 (take 8 ds)) (drop 8 ds) ≡ digits_value_after 10 n ds
  pub at_most : n * 100000000 + digits_value 10 (take 8 ds) ≤ digits_value_after 10 n ds

behind : (n a b c d e f g h : ℕ) → n * 100000000 + ((((((((0 * 10 + a) * 10 + b) * 10 + c) * 10 + d) * 10 + e) * 10 + f) * 10 + g) * 10 + h) ≡ (((((((n * 10 + a) * 10 + b) * 10 + c) * 10 + d) * 10 + e) * 10 + f) * 10 + g) * 10 + h
behind n a b c d e f g h = omega arith

pub next_eight : (n : ℕ) (ds : List ℕ) → 8 ≤ length ds → all_ascii_digits ds ≡ true → NextEight n ds
next_eight n (a ∷ b ∷ c ∷ d ∷ e ∷ f ∷ g ∷ h ∷ ds) many all =
    let k = AllDigits-from_test (a ∷ b ∷ c ∷ d ∷ e ∷ f ∷ g ∷ h ∷ ds) all in
    let value : digits_value_after 10 (n * 100000000 + digits_value 10 (a ∷ b ∷ c ∷ d ∷ e ∷ f ∷ g ∷ h ∷ [])) ds ≡ digits_value_after 10 n (a ∷ b ∷ c ∷ d ∷ e ∷ f ∷ g ∷ h ∷ ds) =
    ap (λ (x : ℕ). digits_value_after 10 x ds) (behind n (digit_value a) (digit_value b) (digit_value c) (digit_value d) (digit_value e) (digit_value f) (digit_value g) (digit_value h)) in
    record {
      digits = all_digits-from_AllDigits (a ∷ b ∷ c ∷ d ∷ e ∷ f ∷ g ∷ h ∷ []) (k.0, (k.1.0, (k.1.1.0, (k.1.1.1.0, (k.1.1.1.1.0, (k.1.1.1.1.1.0, (k.1.1.1.1.1.1.0, (k.1.1.1.1.1.1.1.0, tt))))))));
      others = all_digits-from_AllDigits ds k.1.1.1.1.1.1.1.1;
      value = value;
      at_most = omega (arith, value, after-ge (n * 100000000 + digits_value 10 (a ∷ b ∷ c ∷ d ∷ e ∷ f ∷ g ∷ h ∷ [])) ds);
    }
next_eight n ds many all = absurd (omega arith)
