-- A printed integer spells it.
use Rattle.std.specs.Prelude.{◌≡◌, ℕ, ℤ, pos, negsuc, neg_ℤ, suc, ◌+◌, ◌%◌, ◌/◌, ◌^◌, ◌<◌, ◌≤◌, true, false, List, [], ◌∷◌, ◌++◌, decimal}
use Rattle.std.specs.List.{AllByRecursion}
use Rattle.std.specs.Char.{IsAsciiDigit}
use Rattle.std.specs.Fmt.{signed_decimal}
use Rattle.std.proofs.Common.{refl, sym, ap, inl, inr, arith, eq-zero-or-pos}
use Rattle.std.proofs.lemmas.Fmt.{decimal_by_steps, decimal_is_IsNumeral}
use Rattle.std.proofs.lemmas.Nat.{mod_below, le-div}
use Rattle.sj_base.specs.Number.{IsWhole, IsInRange, SpellsInteger}
use Rattle.sj_base.proofs.Fronts.{AllByRecursion-append}

-- the decimal digits of a number, without leading zeros
record Digits (n : ℕ) (ds : List ℕ) : Type 0 where
  none : n ≡ 0 → ds ≡ 0x30 ∷ []
  some : 0 < n → (d : ℕ) × (others : List ℕ) × (ds ≡ d ∷ others) × (0x31 ≤ d) × (d ≤ 0x39) × AllByRecursion IsAsciiDigit others

-- a number of one digit
one_digit : (n : ℕ) → n < 10 → Digits n ((48 + n) ∷ [])
one_digit n h = record { none = λ e. ap (λ m. (48 + m) ∷ []) e; some = λ above. (48 + n, [], refl, omega arith, omega arith, tt) }

-- a number with one digit more
more_digits : (n : ℕ) (ds : List ℕ) → 10 ≤ n → Digits (n / 10) ds → Digits n (ds ++ ((48 + n % 10) ∷ []))
more_digits n ds h k = record {
  none = λ e. absurd (omega arith);
  some = λ above.
      let p = k.some (le-div 1 n 10 (omega arith) (omega arith)) in
      let last = mod_below n 10 (omega arith) in
      (p.0, p.1 ++ (48 + n % 10) ∷ [], ap (λ (ys : List ℕ). ys ++ (48 + n % 10) ∷ []) p.2, p.3, p.4, AllByRecursion-append IsAsciiDigit p.1 ((48 + n % 10) ∷ []) p.5 ((omega arith, omega arith), tt));
}

-- a printed number is a whole number
decimal_whole : (n : ℕ) → n < 2 ^ 64 → IsWhole (decimal n)
decimal_whole n h =
    let k = decimal_by_steps (λ m ds. Digits m ds) one_digit more_digits n h in
    elim (eq-zero-or-pos n) [ inl e ↦ inl (k.none e) | inr above ↦ inr (k.some above) ]

-- a printed integer spells it
pub integer_spells : (n : ℤ) → IsInRange n → SpellsInteger n (signed_decimal n)
integer_spells (pos n) h = record { negative = false; whole = decimal n; parts = refl; is_whole = decimal_whole n h; value = ap pos (sym (decimal_is_IsNumeral n h).1) }
integer_spells (negsuc n) h =
    let fits : suc n < 2 ^ 64 = omega arith in
    record { negative = true; whole = decimal (suc n); parts = refl; is_whole = decimal_whole (suc n) fits; value = ap (λ m. neg_ℤ (pos m)) (sym (decimal_is_IsNumeral (suc n) fits).1) }
