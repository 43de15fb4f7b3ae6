-- The bytes of numbers. No bytes spell two integers, or an integer and a decimal literal.
use Rattle.std.specs.Prelude.{◌≡◌, ℕ, ℤ, ◌⊎◌, ◌<◌, ◌≤◌, length, Bool, true, false, List, [], ◌∷◌, ◌++◌}
use Rattle.std.specs.List.{AllByRecursion}
use Rattle.std.specs.Char.{IsAsciiDigit}
use Rattle.std.specs.Str.Parse.{digits_value}
use Rattle.std.proofs.Common.{refl, sym, ap, ap₂, ◌∙◌, subst, inl, inr, arith, append-nil}
use Rattle.sj_base.specs.Number.{minus, signed, IsWhole, IsFraction, IsExponent, SpellsInteger, IsInRange, IsDecimal}
use Rattle.sj_base.proofs.Fronts.{cons_parts, NotFirst, all_none, AllByRecursion-append, AllByRecursion-parts, AllByRecursion-weaker}

-- the bytes that occur in numbers
abbrev pub IsInNumber : ℕ → Type 0
IsInNumber b = IsAsciiDigit b ⊎ ((b ≡ 0x2d) ⊎ ((b ≡ 0x2b) ⊎ ((b ≡ 0x2e) ⊎ ((b ≡ 0x65) ⊎ (b ≡ 0x45)))))

-- None of them is below a plus.
pub number_low : (b : ℕ) → IsInNumber b → 0x2b ≤ b
number_low b (inl d) = let low : 48 ≤ b = d.0 in omega arith
number_low b (inr (inl e)) = omega arith
number_low b (inr (inr (inl e))) = omega arith
number_low b (inr (inr (inr (inl e)))) = omega arith
number_low b (inr (inr (inr (inr (inl e))))) = omega arith
number_low b (inr (inr (inr (inr (inr e))))) = omega arith

-- a whole number is digits
pub whole_digits : (ds : List ℕ) → IsWhole ds → AllByRecursion IsAsciiDigit ds
whole_digits ds (inl e) = subst (λ (ys : List ℕ). AllByRecursion IsAsciiDigit ys) (sym e) ((omega arith, omega arith), tt)
whole_digits ds (inr h) =
    let low : 0x31 ≤ h.0 = h.3 in
    subst (λ (ys : List ℕ). AllByRecursion IsAsciiDigit ys) (sym h.2) ((omega arith, h.4), h.5)

-- It isn't empty.
whole_first : (ds : List ℕ) → IsWhole ds → (d : ℕ) × (others : List ℕ) × (ds ≡ d ∷ others) × IsAsciiDigit d
whole_first ds (inl e) = (0x30, [], e, (omega arith, omega arith))
whole_first ds (inr h) = let low : 0x31 ≤ h.0 = h.3 in (h.0, h.1, h.2, (omega arith, h.4))

pub whole_some : (ds : List ℕ) → IsWhole ds → 0 < length ds
whole_some ds w = let p = whole_first ds w in omega (arith, ap length p.2)

-- so it begins with no minus
pub no_minus : (ds rest : List ℕ) → IsWhole ds → NotFirst (λ b. b ≡ 0x2d) (ds ++ rest)
no_minus ds rest w =
    let p = whole_first ds w in
    let low : 48 ≤ p.0 = p.3.0 in
    subst (λ (ys : List ℕ). NotFirst (λ b. b ≡ 0x2d) (ys ++ rest)) (sym p.2) (λ e. omega arith)

-- The sign in front of digits is unique.
same_sign : (b c : Bool) (xs ys : List ℕ) → NotFirst (λ d. d ≡ 0x2d) xs → NotFirst (λ d. d ≡ 0x2d) ys → minus b ++ xs ≡ minus c ++ ys → (b ≡ c) × (xs ≡ ys)
same_sign true true xs ys m n e = (refl, (cons_parts e).1)
same_sign false false xs ys m n e = (refl, e)
same_sign true false xs ys m n e = absurd ((subst (λ (zs : List ℕ). NotFirst (λ d. d ≡ 0x2d) zs) (sym e) n) refl)
same_sign false true xs ys m n e = absurd ((subst (λ (zs : List ℕ). NotFirst (λ d. d ≡ 0x2d) zs) e m) refl)

-- an integer's sign and digits
pub integer_parts : (n : ℤ) (bs : List ℕ) (h : SpellsInteger n bs) → bs ≡ minus h.negative ++ (h.whole ++ [])
integer_parts n bs h = h.parts ∙ ap (λ (ys : List ℕ). minus h.negative ++ ys) (sym (append-nil h.whole))

-- No bytes spell two integers.
pub same_integer : (n m : ℤ) (bs : List ℕ) → SpellsInteger n bs → SpellsInteger m bs → n ≡ m
same_integer n m bs h k =
    let p = same_sign h.negative k.negative (h.whole ++ []) (k.whole ++ []) (no_minus h.whole [] h.is_whole) (no_minus k.whole [] k.is_whole) (sym (integer_parts n bs h) ∙ integer_parts m bs k) in
    let same : h.whole ≡ k.whole = sym (append-nil h.whole) ∙ p.1 ∙ append-nil k.whole in
    h.value ∙ ap₂ (λ b ds. signed b (digits_value 10 ds)) p.0 same ∙ sym k.value

-- a point is no digit
pub fraction_start : (bs rest : List ℕ) → IsFraction bs → NotFirst IsAsciiDigit rest → NotFirst IsAsciiDigit (bs ++ rest)
fraction_start bs rest (inl e) n = subst (λ (ys : List ℕ). NotFirst IsAsciiDigit (ys ++ rest)) (sym e) n
fraction_start bs rest (inr h) n = subst (λ (ys : List ℕ). NotFirst IsAsciiDigit (ys ++ rest)) (sym h.1) (λ d. let low : 48 ≤ 0x2e = d.0 in omega arith)

-- nor is `e` or `E`
pub exponent_start : (bs : List ℕ) → IsExponent bs → NotFirst IsAsciiDigit bs
exponent_start bs (inl e) = subst (λ (ys : List ℕ). NotFirst IsAsciiDigit ys) (sym e) tt
exponent_start bs (inr h) = subst (λ (ys : List ℕ). NotFirst IsAsciiDigit ys) (sym h.3) (λ d. let high : h.0 ≤ 57 = d.1 in letter h.0 high h.4)
  where
    letter : (b : ℕ) → b ≤ 57 → (b ≡ 0x65) ⊎ (b ≡ 0x45) → ⊥
    letter b high (inl e) = omega arith
    letter b high (inr e) = omega arith

-- No bytes both spell an integer in range and are a decimal literal.
pub no_decimal : (n : ℤ) (bs : List ℕ) → IsInRange n → SpellsInteger n bs → IsDecimal bs → ⊥
no_decimal n bs range h k =
    let more = k.fraction ++ k.exponent in
    let p = same_sign h.negative k.negative (h.whole ++ []) (k.whole ++ more) (no_minus h.whole [] h.is_whole) (no_minus k.whole more k.is_whole) (sym (integer_parts n bs h) ∙ k.parts) in
    let digits : AllByRecursion IsAsciiDigit (k.whole ++ more) = subst (λ (ys : List ℕ). AllByRecursion IsAsciiDigit ys) (sym (append-nil h.whole) ∙ p.1) (whole_digits h.whole h.is_whole) in
    let none : more ≡ [] = all_none IsAsciiDigit more (AllByRecursion-parts IsAsciiDigit k.whole more digits).1 (fraction_start k.fraction k.exponent k.is_fraction (exponent_start k.exponent k.is_exponent)) in
    let same : h.whole ≡ k.whole = sym (append-nil h.whole) ∙ p.1 ∙ ap (λ (ys : List ℕ). k.whole ++ ys) none ∙ append-nil k.whole in
    k.is_kept (subst IsInRange (h.value ∙ ap₂ (λ b ds. signed b (digits_value 10 ds)) p.0 same) range) none

-- the bytes of a sign
minus_bytes : (b : Bool) → AllByRecursion IsInNumber (minus b)
minus_bytes true = (inr (inl refl), tt)
minus_bytes false = tt

-- the bytes of digits
digit_bytes : (ds : List ℕ) → AllByRecursion IsAsciiDigit ds → AllByRecursion IsInNumber ds
digit_bytes ds h = AllByRecursion-weaker IsAsciiDigit IsInNumber (λ b d. inl d) ds h

-- the bytes of a fraction
fraction_bytes : (bs : List ℕ) → IsFraction bs → AllByRecursion IsInNumber bs
fraction_bytes bs (inl e) = subst (λ (ys : List ℕ). AllByRecursion IsInNumber ys) (sym e) tt
fraction_bytes bs (inr h) = subst (λ (ys : List ℕ). AllByRecursion IsInNumber ys) (sym h.1) (inr (inr (inr (inl refl))), digit_bytes h.0 h.2.1)

-- the bytes of an exponent
exponent_bytes : (bs : List ℕ) → IsExponent bs → AllByRecursion IsInNumber bs
exponent_bytes bs (inl e) = subst (λ (ys : List ℕ). AllByRecursion IsInNumber ys) (sym e) tt
exponent_bytes bs (inr h) = subst (λ (ys : List ℕ). AllByRecursion IsInNumber ys) (sym h.3) (letter h.0 h.4, AllByRecursion-append IsInNumber h.1 h.2 (sign h.1 h.5) (digit_bytes h.2 h.6.1))
  where
    letter : (b : ℕ) → (b ≡ 0x65) ⊎ (b ≡ 0x45) → IsInNumber b
    letter b (inl e) = inr (inr (inr (inr (inl e))))
    letter b (inr e) = inr (inr (inr (inr (inr e))))

    sign : (ys : List ℕ) → (ys ≡ []) ⊎ ((ys ≡ 0x2b ∷ []) ⊎ (ys ≡ 0x2d ∷ [])) → AllByRecursion IsInNumber ys
    sign ys (inl e) = subst (λ (zs : List ℕ). AllByRecursion IsInNumber zs) (sym e) tt
    sign ys (inr (inl e)) = subst (λ (zs : List ℕ). AllByRecursion IsInNumber zs) (sym e) (inr (inr (inl refl)), tt)
    sign ys (inr (inr e)) = subst (λ (zs : List ℕ). AllByRecursion IsInNumber zs) (sym e) (inr (inl refl), tt)

-- the bytes of an integer
pub integer_bytes : (n : ℤ) (bs : List ℕ) → SpellsInteger n bs → AllByRecursion IsInNumber bs
integer_bytes n bs h = subst (λ (ys : List ℕ). AllByRecursion IsInNumber ys) (sym h.parts) (AllByRecursion-append IsInNumber (minus h.negative) h.whole (minus_bytes h.negative) (digit_bytes h.whole (whole_digits h.whole h.is_whole)))

-- the bytes of a decimal literal
pub decimal_bytes : (bs : List ℕ) → IsDecimal bs → AllByRecursion IsInNumber bs
decimal_bytes bs h =
    subst (λ (ys : List ℕ). AllByRecursion IsInNumber ys) (sym h.parts)
    (AllByRecursion-append IsInNumber (minus h.negative) (h.whole ++ (h.fraction ++ h.exponent)) (minus_bytes h.negative)
    (AllByRecursion-append IsInNumber h.whole (h.fraction ++ h.exponent) (digit_bytes h.whole (whole_digits h.whole h.is_whole))
    (AllByRecursion-append IsInNumber h.fraction h.exponent (fraction_bytes h.fraction h.is_fraction) (exponent_bytes h.exponent h.is_exponent))))

-- the first byte of a number
pub number_first : (negative : Bool) (whole more bs : List ℕ) → IsWhole whole → bs ≡ minus negative ++ (whole ++ more) → (b : ℕ) × (others : List ℕ) × (bs ≡ b ∷ others) × ((b ≡ 0x2d) ⊎ IsAsciiDigit b)
number_first true whole more bs w e = (0x2d, whole ++ more, e, inl refl)
number_first false whole more bs w e = let p = whole_first whole w in (p.0, p.1 ++ more, e ∙ ap (λ (ys : List ℕ). ys ++ more) p.2, inr p.3)
