-- The tests on numbers hold of what the grammar calls a number.
use Rattle.std.specs.Prelude.{◌≡◌, ℕ, ℤ, ◌<◌, ◌≤◌, ◌^◌, ◌⊎◌, Bool, true, false, not, ◌||◌, List, [], ◌∷◌, ◌++◌}
use Rattle.std.specs.List.{AllByRecursion, list_all}
use Rattle.std.specs.Char.{is_ascii_digit, IsAsciiDigit}
use Rattle.std.specs.Str.{all_ascii_digits}
use Rattle.std.specs.Str.Parse.{digits_value}
use Rattle.std.proofs.Common.{refl, sym, ap, ap₂, ◌∙◌, subst, inl, inr, arith, append-nil}
use Rattle.std.proofs.lemmas.Bool.{not_from_false, and_right, lt-leb, and_parts, and_from, or_cases, or_left, or_right, false_from_ne_true, agree_below_at}
use Rattle.sj_base.specs.Tree.{integer, decimal}
use Rattle.sj_base.specs.Number.{minus, signed, IsInRange, SpellsInteger}
use Rattle.sj_base.specs.Spelling.{SpellsValue}
use Rattle.sj_base.proofs.NumberBytes.{IsInNumber, integer_parts, no_decimal, integer_bytes, decimal_bytes, number_first, whole_digits}
use Rattle.sj_base.specs.NumberTests.{is_negative, magnitude, front_digits, behind_digits, is_whole, is_decimal, is_kept_by, is_in_range, is_integer, integer_value, is_number}
use Rattle.sj_parse.specs.inside.NumberNode.{HasShape}
use Rattle.sj_parse.specs.inside.Trees.{number_tree}
use Rattle.sj_parse.specs.declared.numbers.Shape.{Shape}
use Rattle.sj_parse.specs.declared.numbers.Shape.TheVariants.{Whole, Decimal as DecimalLiteral}
use Rattle.sj_parse.specs.inside.WordBytes.{is_word_byte}
use Rattle.sj_base.proofs.Literals.{digits-append, out_of_range, IsInRange-from_is_in_range, is_in_range-from_IsInRange, to_test, all_digits-from_AllDigits, IsWhole-from_is_whole, is_whole-from_IsWhole, sign_parts, sign_of, IsDecimal-from_is_decimal, is_decimal-from_IsDecimal}

-- ---- integers

-- also past the range
SpellsInteger-from_is_whole : (bs : List ℕ) → is_whole (magnitude bs) ≡ true → SpellsInteger (integer_value bs) bs
SpellsInteger-from_is_whole bs e = record { negative = is_negative bs; whole = magnitude bs; parts = sign_parts bs; is_whole = IsWhole-from_is_whole (magnitude bs) e; value = refl }

pub SpellsInteger-from_is_integer : (bs : List ℕ) → is_integer bs ≡ true → SpellsInteger (integer_value bs) bs × IsInRange (integer_value bs)
SpellsInteger-from_is_integer bs e =
    let p = and_parts (is_whole (magnitude bs)) (is_in_range (is_negative bs) (digits_value 10 (magnitude bs))) e in
    (SpellsInteger-from_is_whole bs p.0, IsInRange-from_is_in_range (is_negative bs) (digits_value 10 (magnitude bs)) p.1)

pub is_integer-from_SpellsInteger : (n : ℤ) (bs : List ℕ) → SpellsInteger n bs → IsInRange n → (is_integer bs ≡ true) × (integer_value bs ≡ n)
is_integer-from_SpellsInteger n bs h range =
    let s = sign_of h.negative h.whole [] h.is_whole in
    let parts : bs ≡ minus h.negative ++ (h.whole ++ []) = h.parts ∙ ap (λ (xs : List ℕ). minus h.negative ++ xs) (sym (append-nil h.whole)) in
    let negative : is_negative bs ≡ h.negative = ap is_negative parts ∙ s.0 in
    let whole : magnitude bs ≡ h.whole = ap magnitude parts ∙ s.1 ∙ append-nil h.whole in
    let value : integer_value bs ≡ n = ap₂ (λ b ds. signed b (digits_value 10 ds)) negative whole ∙ sym h.value in (
      and_from (is_whole (magnitude bs)) (is_in_range (is_negative bs) (digits_value 10 (magnitude bs)))
          (ap is_whole whole ∙ is_whole-from_IsWhole h.whole h.is_whole)
          (is_in_range-from_IsInRange (is_negative bs) (digits_value 10 (magnitude bs)) (subst IsInRange (sym value) range)),
      value,
    )

-- ---- decimal literals

pub is_integer-decimal : (bs : List ℕ) → is_decimal bs ≡ true → is_integer bs ≡ false
is_integer-decimal bs e = false_from_ne_true (is_integer bs) (λ i. let p = SpellsInteger-from_is_integer bs i in no_decimal (integer_value bs) bs p.1 p.0 (IsDecimal-from_is_decimal bs e))

-- A whole number out of range is no integer that a carrier holds.
is_integer-out : (bs : List ℕ) → is_in_range (is_negative bs) (digits_value 10 (magnitude bs)) ≡ false → is_integer bs ≡ false
is_integer-out bs out = and_right (is_whole (magnitude bs)) (is_in_range (is_negative bs) (digits_value 10 (magnitude bs))) out

pub is_integer-below : (bs : List ℕ) → is_negative bs ≡ true → (digits_value 10 (magnitude bs) ≤ 2 ^ 63 → ⊥) → is_integer bs ≡ false
is_integer-below bs negative large =
    is_integer-out bs (ap (λ b. is_in_range b (digits_value 10 (magnitude bs))) negative ∙ lt-leb (digits_value 10 (magnitude bs)) (2 ^ 63) (omega arith))

pub is_integer-above : (bs : List ℕ) → (digits_value 10 (magnitude bs) < 2 ^ 64 → ⊥) → is_integer bs ≡ false
is_integer-above bs large = is_integer-out bs (out_of_range (is_negative bs) (digits_value 10 (magnitude bs)) large)

-- It is kept as its text.
pub large_decimal : (bs : List ℕ) → is_whole (magnitude bs) ≡ true → is_integer bs ≡ false → is_decimal bs ≡ true
large_decimal bs whole none =
    let digits = magnitude bs in
    let all = digits-append digits [] (whole_digits digits (IsWhole-from_is_whole digits whole)) tt in
    let front : front_digits digits ≡ digits = ap front_digits (sym (append-nil digits)) ∙ all.0 in
    let behind : behind_digits digits ≡ [] = ap behind_digits (sym (append-nil digits)) ∙ all.1 in
    let out : is_in_range (is_negative bs) (digits_value 10 digits) ≡ false = rw whole at none in
    and_from (is_whole (front_digits digits)) (is_kept_by (is_negative bs) (front_digits digits) (behind_digits digits))
    (ap is_whole front ∙ whole)
    (ap₂ (λ ds xs. is_kept_by (is_negative bs) ds xs) front behind ∙ not_from_false (is_in_range (is_negative bs) (digits_value 10 digits)) out)

-- a whole number is digits
pub whole-digits : (ds : List ℕ) → is_whole ds ≡ true → all_ascii_digits ds ≡ true
whole-digits ds e = all_digits-from_AllDigits ds (whole_digits ds (IsWhole-from_is_whole ds e))

-- ---- numbers and their trees

pub number_tree-integer : (text : List ℕ) → is_integer text ≡ true → number_tree text ≡ integer (integer_value text)
number_tree-integer text e = rw e refl

pub number_tree-decimal : (text : List ℕ) → is_decimal text ≡ true → number_tree text ≡ decimal text
number_tree-decimal text e = rw (is_integer-decimal text e) refl

pub spells-number_tree : (text : List ℕ) → is_number text ≡ true → SpellsValue (number_tree text) text
spells-number_tree text e = elim (or_cases (is_integer text) (is_decimal text) e) [
  | inl i ↦ let p = SpellsInteger-from_is_integer text i in subst (λ t. SpellsValue t text) (sym (number_tree-integer text i)) (p.1, p.0)
  | inr d ↦ subst (λ t. SpellsValue t text) (sym (number_tree-decimal text d)) (refl, IsDecimal-from_is_decimal text d)
]

pub number-from_spells_integer : (n : ℤ) (text : List ℕ) → SpellsValue (integer n) text → (is_number text ≡ true) × (number_tree text ≡ integer n)
number-from_spells_integer n text h =
    let p = is_integer-from_SpellsInteger n text h.1 h.0 in
    (or_left (is_integer text) (is_decimal text) p.0, number_tree-integer text p.0 ∙ ap integer p.1)

pub number-from_spells_decimal : (literal text : List ℕ) → SpellsValue (decimal literal) text → (is_number text ≡ true) × (number_tree text ≡ decimal literal)
number-from_spells_decimal literal text h =
    let d : is_decimal text ≡ true = ap is_decimal h.0 ∙ is_decimal-from_IsDecimal literal h.1 in
    (or_right (is_integer text) (is_decimal text) d, number_tree-decimal text d ∙ ap decimal h.0)

-- ---- the bytes of numbers

is_word_byte-digit : (b : ℕ) → IsAsciiDigit b → is_word_byte b ≡ true
is_word_byte-digit b d =
    let high : b ≤ 57 = d.1 in
    let either = agree_below_at (λ c. not (is_ascii_digit c) || is_word_byte c) (λ c. true) 128 b refl (omega arith) in
    rw (to_test b d) at either

is_word_byte-in_number : (b : ℕ) → IsInNumber b → is_word_byte b ≡ true
is_word_byte-in_number b (inl d) = is_word_byte-digit b d
is_word_byte-in_number b (inr (inl e)) = ap is_word_byte e
is_word_byte-in_number b (inr (inr (inl e))) = ap is_word_byte e
is_word_byte-in_number b (inr (inr (inr (inl e)))) = ap is_word_byte e
is_word_byte-in_number b (inr (inr (inr (inr (inl e))))) = ap is_word_byte e
is_word_byte-in_number b (inr (inr (inr (inr (inr e))))) = ap is_word_byte e

all_word_bytes : (bs : List ℕ) → AllByRecursion IsInNumber bs → list_all is_word_byte bs ≡ true
all_word_bytes [] h = refl
all_word_bytes (b ∷ bs) h = and_from (is_word_byte b) (list_all is_word_byte bs) (is_word_byte-in_number b h.0) (all_word_bytes bs h.1)

pub number_bytes : (text : List ℕ) → is_number text ≡ true → AllByRecursion IsInNumber text
number_bytes text e = elim (or_cases (is_integer text) (is_decimal text) e) [
  | inl i ↦ integer_bytes (integer_value text) text (SpellsInteger-from_is_integer text i).0
  | inr d ↦ decimal_bytes text (IsDecimal-from_is_decimal text d)
]

-- a minus or a digit, and further bytes
pub record First (text : List ℕ) : Type 0 where
  pub first : ℕ
  pub others : List ℕ
  pub parts : text ≡ first ∷ others
  pub is_first : (first ≡ 0x2d) ⊎ IsAsciiDigit first

pub number_opens : (text : List ℕ) → is_number text ≡ true → First text
number_opens text e = elim (or_cases (is_integer text) (is_decimal text) e) [
  | inl i ↦ let h = (SpellsInteger-from_is_integer text i).0 in opened (number_first h.negative h.whole [] text h.is_whole (integer_parts (integer_value text) text h))
  | inr d ↦ let h = IsDecimal-from_is_decimal text d in opened (number_first h.negative h.whole (h.fraction ++ h.exponent) text h.is_whole h.parts)
]
  where
    opened : (b : ℕ) × (others : List ℕ) × (text ≡ b ∷ others) × ((b ≡ 0x2d) ⊎ IsAsciiDigit b) → First text
    opened p = record { first = p.0; others = p.1; parts = p.2; is_first = p.3 }

pub is_word-number : (text : List ℕ) → is_number text ≡ true → (list_all is_word_byte text ≡ true) × First text
is_word-number text e = (all_word_bytes text (number_bytes text e), number_opens text e)

-- what has the shape of a number is one
pub shape-number : (text : List ℕ) (s : Shape) → HasShape text s → is_number text ≡ true
shape-number text Whole h = at (is_integer text) refl
  where
    at : (b : Bool) → is_integer text ≡ b → (b || is_decimal text) ≡ true
    at true is = refl
    at false is = large_decimal text h is
shape-number text DecimalLiteral h = rw (is_integer-decimal text h, h) refl
