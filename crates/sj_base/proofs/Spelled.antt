-- Worked values of the relations: texts that each holds of, and texts that it doesn't.
use Rattle.std.specs.Prelude.{◌≡◌, ℕ, ◌≤◌, ◌<◌, pos, false, true, List, [], ◌∷◌, ◌++◌, codes, flat_map, Bool}
use Rattle.std.specs.List.{AllByRecursion}
use Rattle.std.specs.Char.{IsScalar, IsAsciiDigit}
use Rattle.std.proofs.Common.{refl, sym, ap, ◌∙◌, subst, inl, inr, arith, append_assoc, append-nil, length, take, drop, take_at, drop_at, length-append}
use Rattle.std.proofs.lemmas.Bool.{false≢true}
use Rattle.std.proofs.lemmas.Str.{encode_ascii, encode_same}
use Rattle.sj_base.specs.Tree.{Tree, integer, list, no_items, item}
use Rattle.sj_base.specs.Number.{minus, IsWhole, IsFraction, IsExponent, SpellsInteger, IsDecimal}
use Rattle.sj_base.specs.Characters.{CharacterForm, raw, short, unit, pair, hex_value, IsCharacterForm, form_bytes, Means}
use Rattle.sj_base.specs.Spelling.{AreSpaces, Padded, SpellsValue, Spells}
use Rattle.sj_base.specs.Spelling.{Document}
use Rattle.sj_base.proofs.Fronts.{cons_parts}
use Rattle.sj_base.proofs.Cuts.{kind_at, space_low, padded_begins}
use Rattle.sj_base.proofs.Literals.{IsDecimal-from_is_decimal}
use Rattle.sj_base.proofs.NumberBytes.{no_decimal}
use Rattle.sj_base.proofs.Values.{value_opens}

-- `\u0041` stands for A.
unit_means : Means (codes "\\u0041") (codes "A")
unit_means = record { forms = unit (codes "0041") ∷ []; are_forms = (((refl, (omega arith, (omega arith, (omega arith, (omega arith, tt))))), refl), tt); shown = refl; meant = sym (ap (λ (bs : List ℕ). bs ++ []) (encode_ascii 0x41 (omega arith))) }

-- `\ud83d` alone stands for no text.
no_lone_surrogate : (forms : List CharacterForm) → AllByRecursion IsCharacterForm forms → codes "\\ud83d" ≡ flat_map form_bytes forms → ⊥
no_lone_surrogate [] h e = let n = ap length e in omega arith
no_lone_surrogate (raw c ∷ forms) h e =
    h.0.3 (encode_same c 0x5c (flat_map form_bytes forms) (codes "ud83d") (sym e ∙ ap (λ (bs : List ℕ). bs ++ codes "ud83d") (sym (encode_ascii 0x5c (omega arith))))).0
no_lone_surrogate (short letter ∷ forms) h e =
    let u : letter ≡ 0x75 = sym (cons_parts ((cons_parts e).1)).0 in
    let none : IsCharacterForm (short 0x75) = subst (λ l. IsCharacterForm (short l)) u h.0 in
    false≢true none
no_lone_surrogate (unit ds ∷ forms) h e =
    let rest : codes "d83d" ≡ ds ++ flat_map form_bytes forms = (cons_parts ((cons_parts e).1)).1 in
    let same : codes "d83d" ≡ ds = ap (λ (bs : List ℕ). take 4 bs) rest ∙ take_at ds (flat_map form_bytes forms) 4 h.0.0.0 in
    let surrogate : IsScalar 0xd83d = subst (λ bs. IsScalar (hex_value bs)) (sym same) h.0.1 in
    false≢true surrogate
no_lone_surrogate (pair high low ∷ forms) h e =
    let rest : codes "d83d" ≡ high ++ ((0x5c ∷ 0x75 ∷ low) ++ flat_map form_bytes forms) = (cons_parts ((cons_parts e).1)).1 ∙ append_assoc high (0x5c ∷ 0x75 ∷ low) (flat_map form_bytes forms) in
    let more = ap (λ (bs : List ℕ). length (drop 4 bs)) rest ∙ ap length (drop_at high ((0x5c ∷ 0x75 ∷ low) ++ flat_map form_bytes forms) 4 h.0.0.0) in
    omega arith

lone_surrogate : (text : List ℕ) → Means (codes "\\ud83d") text → ⊥
lone_surrogate text h = no_lone_surrogate h.forms h.are_forms h.shown

-- without whitespace around it
bare : (P : List ℕ → Type 0) (bs : List ℕ) → P bs → Padded P bs
bare P bs h = record { before = []; inner = bs; after = []; parts = sym (append-nil bs); spaces_before = tt; spaces_after = tt; holds = h }

-- `-0` spells zero
minus_zero : SpellsInteger (pos 0) (codes "-0")
minus_zero = record { negative = true; whole = codes "0"; parts = refl; is_whole = inl refl; value = refl }

-- `7` spells seven
seven : SpellsInteger (pos 7) (codes "7")
seven = record { negative = false; whole = codes "7"; parts = refl; is_whole = inr (0x37, [], refl, omega arith, omega arith, tt); value = refl }

seven_spelled : Spells (codes "7") (integer (pos 7))
seven_spelled = bare (SpellsValue (integer (pos 7))) (codes "7") (omega arith, seven)

-- `[7]` spells its tree
seven_in_list : SpellsValue (list (item (integer (pos 7)) no_items)) (codes "[7]")
seven_in_list = (codes "7", refl, (codes "7", [], refl, seven_spelled, refl))

-- `[-0,[7]]` spells its tree
list_spelled : Spells (codes "[-0,[7]]") (list (item (integer (pos 0)) (item (list (item (integer (pos 7)) no_items)) no_items)))
list_spelled =
    let zero_spelled = bare (SpellsValue (integer (pos 0))) (codes "-0") (omega arith, minus_zero) in
    let inner_spelled = bare (SpellsValue (list (item (integer (pos 7)) no_items))) (codes "[7]") seven_in_list in
    bare (SpellsValue (list (item (integer (pos 0)) (item (list (item (integer (pos 7)) no_items)) no_items)))) (codes "[-0,[7]]")
    (codes "-0,[7]", refl, (codes "-0", codes ",[7]", refl, zero_spelled, (codes "[7]", [], refl, inner_spelled, refl)))

-- The empty line spells no tree.
no_first_byte : (before rest : List ℕ) → [] ≡ before ++ rest → 0 < kind_at rest → ⊥
no_first_byte [] rest e h = let none = ap kind_at e in omega arith
no_first_byte (b ∷ before) rest e h = let n = ap length e in omega arith

empty_line : (t : Tree) → Spells [] t → ⊥
empty_line t h = let p = padded_begins SpellsValue t value_opens [] [] h in no_first_byte p.0 p.1 p.3 p.4

-- A closing bracket alone spells no tree.
no_opening_byte : (before rest : List ℕ) → AreSpaces before → codes "]" ≡ before ++ rest → kind_at rest < 8 → ⊥
no_opening_byte [] rest spaces e h = let closing = ap kind_at e in omega arith
no_opening_byte (b ∷ before) rest spaces e h = let low = space_low b spaces.0 in let same = (cons_parts e).0 in omega arith

closing_bracket : (t : Tree) → Spells (codes "]") t → ⊥
closing_bracket t h = let p = padded_begins SpellsValue t value_opens (codes "]") [] h in no_opening_byte p.0 p.1 p.2 p.3 p.5

-- A scalar is within a limit of 0 levels.
scalar_document : Document (codes "7") 0 (integer (pos 7))
scalar_document = record { short = omega arith; spells = seven_spelled; shallow = omega arith }

-- A list isn't.
list_too_deep : Document (codes "[]") 0 (list no_items) → ⊥
list_too_deep h = let shallow : 1 ≤ 0 = h.shallow in omega arith

-- decimal literals
exponent_of_zero : IsDecimal (codes "-0e0")
exponent_of_zero = record {
  negative = true;
  whole = codes "0";
  fraction = [];
  exponent = codes "e0";
  parts = refl;
  is_whole = inl refl;
  is_fraction = inl refl;
  is_exponent = inr (0x65, [], codes "0", refl, inl refl, inl refl, (omega arith, ((omega arith, omega arith), tt)));
  is_kept = λ range e. let n = ap length e in omega arith;
}

exponent_with_plus : IsDecimal (codes "1E+5")
exponent_with_plus = record {
  negative = false;
  whole = codes "1";
  fraction = [];
  exponent = codes "E+5";
  parts = refl;
  is_whole = inr (0x31, [], refl, omega arith, omega arith, tt);
  is_fraction = inl refl;
  is_exponent = inr (0x45, codes "+", codes "5", refl, inr refl, inr (inl refl), (omega arith, ((omega arith, omega arith), tt)));
  is_kept = λ range e. let n = ap length e in omega arith;
}

-- An integer in range isn't a decimal literal.
integer_no_decimal : IsDecimal (codes "-0") → ⊥
integer_no_decimal h = no_decimal (pos 0) (codes "-0") (omega arith) minus_zero h

-- The first one past the range is.
large_integer : IsDecimal (codes "18446744073709551616")
large_integer = IsDecimal-from_is_decimal (codes "18446744073709551616") refl

-- A point has to be followed by digits.
no_point_alone : (before rest : List ℕ) → codes "." ≡ before ++ rest → IsFraction before → IsExponent rest → ⊥
no_point_alone before rest e (inl none) (inl nothing) = let n = ap length (e ∙ ap (λ (bs : List ℕ). bs ++ rest) none ∙ nothing) in omega arith
no_point_alone before rest e (inl none) (inr h) =
    let same : 0x2e ≡ h.0 = (cons_parts (e ∙ ap (λ (bs : List ℕ). bs ++ rest) none ∙ h.3)).0 in
    elim h.4 [ inl small ↦ omega arith | inr large ↦ omega arith ]
no_point_alone before rest e (inr h) end =
    let whole : [] ≡ h.0 ++ rest = (cons_parts (e ∙ ap (λ (bs : List ℕ). bs ++ rest) h.1)).1 in
    let n : 0 ≡ length (h.0 ++ rest) = ap length whole in
    let some : 0 < length h.0 = h.2.0 in
    let sum = length-append h.0 rest in
    omega arith

no_digits_behind : (negative : Bool) (whole fraction exponent : List ℕ) → codes "1." ≡ minus negative ++ (whole ++ (fraction ++ exponent)) → IsWhole whole → IsFraction fraction → IsExponent exponent → ⊥
no_digits_behind true whole fraction exponent e w f x = let same = (cons_parts e).0 in omega arith
no_digits_behind false whole fraction exponent e (inl zero) f x = let same = (cons_parts (e ∙ ap (λ (bs : List ℕ). bs ++ (fraction ++ exponent)) zero)).0 in omega arith
no_digits_behind false whole fraction exponent e (inr h) f x = more h.1 h.5 (cons_parts (e ∙ ap (λ (bs : List ℕ). bs ++ (fraction ++ exponent)) h.2)).1
  where
    more : (others : List ℕ) → AllByRecursion IsAsciiDigit others → codes "." ≡ others ++ (fraction ++ exponent) → ⊥
    more [] digits rest = no_point_alone fraction exponent rest f x
    more (d ∷ others) digits rest = let low : 48 ≤ d = digits.0.0 in let same = (cons_parts rest).0 in omega arith

point_alone : IsDecimal (codes "1.") → ⊥
point_alone h = no_digits_behind h.negative h.whole h.fraction h.exponent h.parts h.is_whole h.is_fraction h.is_exponent
