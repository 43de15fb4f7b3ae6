-- Escapes: the test on what stands behind a backslash accepts the forms of characters.
use Rattle.std.specs.Prelude.{◌+◌, ◌-◌, ◌*◌, ◌≡◌, ◌≢◌, ℕ, suc, ◌<◌, ◌≤◌, ◌^◌, true, false, not, ◌&&◌, ◌||◌, ◌==◌, nat_le, nat_lt, List, [], ◌∷◌, ◌++◌, length, take, drop, codes, bytes_eq, is_some, IsSome, SomeIff, Bool, Result, Ok, Err}
use Rattle.std.specs.Bool.{then_some}
use Rattle.std.specs.List.{list_all}
use Rattle.std.specs.Char.{IsScalar, digit_value, is_ascii_hexdigit}
use Rattle.std.specs.Int.{IsInRange}
use Rattle.std.specs.Result.{result_unwrap_or}
use Rattle.std.specs.Str.Parse.{AllDigits}
use Rattle.std.proofs.Common.{refl, sym, ap, ap₂, ◌∙◌, subst, inl, inr, arith, append_assoc, take_at, drop_at, drop-drop, take-append-drop, length-append}
use Rattle.std.proofs.lemmas.Bool.{false≢true, cases_Bool, cases_lt, and_parts, and_from, and_cases, agree_below_at, not-true, false_from_ne_true, true_from_ne_false, eqb-true, eq-eqb, ne_eqb, leb-true, leb-false, le-leb, lt-leb, ltb-true, lt-ltb, le-ltb}
use Rattle.std.proofs.lemmas.Int.Digits.{digits_value-lt}
use Rattle.std.proofs.lemmas.Slice.Eq.{bytes_eq-Decides}
use Rattle.sj_base.specs.Characters.{CharacterForm, raw, short, unit, pair, short_character, IsHex, hex_value, IsCharacterForm, form_bytes, form_character}
use Rattle.sj_parse.specs.declared.descent_fault.DescentKind.{DescentKind}
use Rattle.sj_base.proofs.Fronts.{cons_parts}
use Rattle.sj_parse.specs.declared.descent_fault.DescentKind.TheVariants.{InvalidUnicodeEscape, InvalidUnicodeCodepoint}
use Rattle.sj_base.proofs.Bodies.{pair_bytes}
use Rattle.sj_base.proofs.Trees.{IsScalar-pair}
use Rattle.sj_parse.specs.Escapes.{is_hex, is_high_surrogate, is_low_surrogate, begins_with_low_surrogate, unicode_escape, escape}
use Rattle.sj_parse.specs.inside.Decoded.{escaped_character}

-- ---- hexadecimal digits

high_digit : (c : ℕ) → 128 ≤ c → digit_value c ≡ 36
high_digit c h = rw (le-ltb c 48 (omega arith), le-ltb c 58 (omega arith), le-ltb c 65 (omega arith), le-ltb c 91 (omega arith), le-ltb c 97 (omega arith), le-ltb c 123 (omega arith)) refl

hexdigit_same : (c : ℕ) → is_ascii_hexdigit c ≡ nat_lt (digit_value c) 16
hexdigit_same c = elim (cases_lt c 128) [
  | inl low ↦ agree_below_at is_ascii_hexdigit (λ d. nat_lt (digit_value d) 16) 128 c refl low
  | inr high ↦ rw (high_digit c high, lt-leb c 57 (omega arith), lt-leb c 70 (omega arith), lt-leb c 102 (omega arith), le-leb 48 c (omega arith), le-leb 65 c (omega arith), le-leb 97 c (omega arith)) refl
]

-- A digit is a byte that stands for itself in a body.
pub hex_byte : (d : ℕ) → digit_value d < 16 → (0x20 ≤ d) × (d ≢ 0x22) × (d ≢ 0x5c)
hex_byte d h = elim (cases_lt d 128) [
  | inl low ↦
      let either = agree_below_at (λ c. not (nat_lt (digit_value c) 16) || (nat_le 0x30 c && not (c == 0x5c))) (λ c. true) 128 d refl low in
      let p = and_parts (nat_le 0x30 d) (not (d == 0x5c)) (rw (lt-ltb (digit_value d) 16 h) at either) in
      let least = leb-true 0x30 d p.0 in
      (omega arith, λ e. omega arith, λ e. false≢true (sym (not-true (d == 0x5c) p.1) ∙ eq-eqb d 0x5c e))
  | inr high ↦ let none = high_digit d high in absurd (omega arith)
]

digits_from_tests : (ds : List ℕ) → list_all is_ascii_hexdigit ds ≡ true → AllDigits 16 ds
digits_from_tests [] e = tt
digits_from_tests (d ∷ ds) e =
    let p = and_parts (is_ascii_hexdigit d) (list_all is_ascii_hexdigit ds) e in
    (ltb-true (digit_value d) 16 (sym (hexdigit_same d) ∙ p.0), digits_from_tests ds p.1)

tests_from_digits : (ds : List ℕ) → AllDigits 16 ds → list_all is_ascii_hexdigit ds ≡ true
tests_from_digits [] h = refl
tests_from_digits (d ∷ ds) h = and_from (is_ascii_hexdigit d) (list_all is_ascii_hexdigit ds) (hexdigit_same d ∙ lt-ltb (digit_value d) 16 h.0) (tests_from_digits ds h.1)

pub IsHex-from_is_hex : (ds : List ℕ) → is_hex ds ≡ true → IsHex ds
IsHex-from_is_hex ds e = let p = and_parts (length ds == 4) (list_all is_ascii_hexdigit ds) e in (eqb-true (length ds) 4 p.0, digits_from_tests ds p.1)

pub is_hex-from_IsHex : (ds : List ℕ) → IsHex ds → is_hex ds ≡ true
is_hex-from_IsHex ds h = and_from (length ds == 4) (list_all is_ascii_hexdigit ds) (eq-eqb (length ds) 4 h.0) (tests_from_digits ds h.1)

pub hex_value-lt : (ds : List ℕ) → IsHex ds → hex_value ds < 0x10000
hex_value-lt ds h = let lt = digits_value-lt 16 ds h.1 in let same : 16 ^ length ds ≡ 0x10000 = ap (λ n. 16 ^ n) h.0 in omega arith

-- ---- surrogates

high_range : (n : ℕ) → is_high_surrogate n ≡ true → IsInRange 0xd800 0xdbff n
high_range n e = let p = and_parts (nat_le 0xd800 n) (nat_le n 0xdbff) e in (leb-true 0xd800 n p.0, leb-true n 0xdbff p.1)

low_range : (n : ℕ) → is_low_surrogate n ≡ true → IsInRange 0xdc00 0xdfff n
low_range n e = let p = and_parts (nat_le 0xdc00 n) (nat_le n 0xdfff) e in (leb-true 0xdc00 n p.0, leb-true n 0xdfff p.1)

no_surrogate : (n : ℕ) → 0xd800 ≤ n → n ≤ 0xdfff → IsScalar n → ⊥
no_surrogate n low high s = false≢true (rw (le-ltb n 55296 low, lt-leb 57344 n (omega arith)) at s)

no_high : (n : ℕ) → IsScalar n → is_high_surrogate n ≡ false
no_high n s = false_from_ne_true (is_high_surrogate n) (λ e. let r = high_range n e in let most : n ≤ 0xdbff = r.1 in no_surrogate n r.0 (omega arith) s)

no_low : (n : ℕ) → IsScalar n → is_low_surrogate n ≡ false
no_low n s = false_from_ne_true (is_low_surrogate n) (λ e. let r = low_range n e in let least : 0xdc00 ≤ n = r.0 in no_surrogate n (omega arith) r.1 s)

-- a number of four digits that is no surrogate
unit_scalar : (n : ℕ) → n < 0x10000 → is_high_surrogate n ≡ false → is_low_surrogate n ≡ false → IsScalar n
unit_scalar n below high low = elim (cases_lt n 0xd800) [
  | inl first ↦ rw (lt-ltb n 55296 first) refl
  | inr second ↦ elim (and_cases (nat_le 0xd800 n) (nat_le n 0xdbff) high) [
    | inl least ↦ let no = leb-false 0xd800 n least in absurd (omega arith)
    | inr most ↦ elim (and_cases (nat_le 0xdc00 n) (nat_le n 0xdfff) low) [
      | inl least ↦ let no = leb-false 0xdc00 n least in let past = leb-false n 0xdbff most in absurd (omega arith)
      | inr last ↦ let past = leb-false n 0xdfff last in rw (le-ltb n 55296 second, le-leb 57344 n (omega arith), lt-ltb n 1114112 (omega arith)) refl
    ]
  ]
]

-- ---- what is accepted

abbrev pub IsEscape : CharacterForm → Type 0
IsEscape (raw c) = ⊥
IsEscape (short letter) = Unit {0}
IsEscape (unit ds) = Unit {0}
IsEscape (pair high low) = Unit {0}

-- These bytes, of which n belong to the escape, stand behind the backslash of a form.
pub record Escape (n : ℕ) (bs : List ℕ) : Type 0 where
  pub form : CharacterForm
  pub is_form : IsCharacterForm form
  pub is_escape : IsEscape form
  pub long : length (form_bytes form) ≡ suc n
  pub shown : 0x5c ∷ bs ≡ form_bytes form ++ drop n bs
  pub meant : escaped_character bs ≡ form_character form

unit_form : (bs : List ℕ) → is_hex (take 4 bs) ≡ true → is_high_surrogate (hex_value (take 4 bs)) ≡ false → is_low_surrogate (hex_value (take 4 bs)) ≡ false → Escape 5 (0x75 ∷ bs)
unit_form bs hex high low =
    let h = IsHex-from_is_hex (take 4 bs) hex in
    record {
      form = unit (take 4 bs);
      is_form = (h, unit_scalar (hex_value (take 4 bs)) (hex_value-lt (take 4 bs) h) high low);
      is_escape = tt;
      long = ap (λ n. suc (suc n)) h.0;
      shown = ap (λ (xs : List ℕ). 0x5c ∷ 0x75 ∷ xs) (sym (take-append-drop 4 bs));
      meant = rw high refl;
    }

-- the bytes of a high surrogate's digits, and of a low one behind
pair_parts : (bs : List ℕ) → bytes_eq (take 2 (drop 4 bs)) (codes "\\u") ≡ true → bs ≡ take 4 bs ++ 0x5c ∷ 0x75 ∷ (take 4 (drop 6 bs) ++ drop 10 bs)
pair_parts bs e =
    let six : drop 2 (drop 4 bs) ≡ drop 6 bs = drop-drop 2 4 bs in
    let ten : drop 4 (drop 6 bs) ≡ drop 10 bs = drop-drop 4 6 bs in
    let begin : take 2 (drop 4 bs) ≡ 0x5c ∷ 0x75 ∷ [] = (bytes_eq-Decides (take 2 (drop 4 bs)) (codes "\\u")).0 e in
    let low : drop 6 bs ≡ take 4 (drop 6 bs) ++ drop 10 bs = sym (take-append-drop 4 (drop 6 bs)) ∙ ap (λ (xs : List ℕ). take 4 (drop 6 bs) ++ xs) ten in
    let behind : drop 4 bs ≡ 0x5c ∷ 0x75 ∷ (take 4 (drop 6 bs) ++ drop 10 bs) = sym (take-append-drop 2 (drop 4 bs)) ∙ ap₂ (λ (xs ys : List ℕ). xs ++ ys) begin (six ∙ low) in
    sym (take-append-drop 4 bs) ∙ ap (λ (xs : List ℕ). take 4 bs ++ xs) behind

-- `\u` and the digits of a low surrogate
pub record Low (bs : List ℕ) : Type 0 where
  pub begins : bytes_eq (take 2 bs) (codes "\\u") ≡ true
  pub digits : IsHex (take 4 (drop 2 bs))
  pub is_low : is_low_surrogate (hex_value (take 4 (drop 2 bs))) ≡ true

pub low_parts : (bs : List ℕ) → begins_with_low_surrogate bs ≡ true → Low bs
low_parts bs e =
    let p = and_parts (bytes_eq (take 2 bs) (codes "\\u") && is_hex (take 4 (drop 2 bs))) (is_low_surrogate (hex_value (take 4 (drop 2 bs)))) e in
    let q = and_parts (bytes_eq (take 2 bs) (codes "\\u")) (is_hex (take 4 (drop 2 bs))) p.0 in
    record { begins = q.0; digits = IsHex-from_is_hex (take 4 (drop 2 bs)) q.1; is_low = p.1 }

pub low_from_parts : (bs : List ℕ) → Low bs → begins_with_low_surrogate bs ≡ true
low_from_parts bs h =
    and_from (bytes_eq (take 2 bs) (codes "\\u") && is_hex (take 4 (drop 2 bs))) (is_low_surrogate (hex_value (take 4 (drop 2 bs))))
    (and_from (bytes_eq (take 2 bs) (codes "\\u")) (is_hex (take 4 (drop 2 bs))) h.begins (is_hex-from_IsHex (take 4 (drop 2 bs)) h.digits)) h.is_low

pub low_found : {P : Type 0} (is_low : Bool) (x y : ℕ) → (is_low ≡ true → P) → (P → is_low ≡ true) → x ≡ y → SomeIff (then_some is_low x) P y
low_found true x y found here e = (found refl, e)
low_found false x y found here e = λ p. absurd (false≢true (here p))

pair_form : (bs : List ℕ) → is_hex (take 4 bs) ≡ true → is_high_surrogate (hex_value (take 4 bs)) ≡ true → begins_with_low_surrogate (drop 4 bs) ≡ true → Escape 11 (0x75 ∷ bs)
pair_form bs hex high e =
    let parts = low_parts (drop 4 bs) e in
    let six : drop 2 (drop 4 bs) ≡ drop 6 bs = drop-drop 2 4 bs in
    let first = IsHex-from_is_hex (take 4 bs) hex in
    let last : IsHex (take 4 (drop 6 bs)) = subst (λ (xs : List ℕ). IsHex (take 4 xs)) six parts.digits in
    record {
      form = pair (take 4 bs) (take 4 (drop 6 bs));
      is_form = (first, last, high_range (hex_value (take 4 bs)) high, low_range (hex_value (take 4 (drop 6 bs))) (ap (λ (xs : List ℕ). is_low_surrogate (hex_value (take 4 xs))) (sym six) ∙ parts.is_low));
      is_escape = tt;
      long = let one = first.0 in let two = last.0 in let sum = length-append (take 4 bs) (0x5c ∷ 0x75 ∷ take 4 (drop 6 bs)) in omega arith;
      shown = ap (λ (xs : List ℕ). 0x5c ∷ 0x75 ∷ xs) (pair_parts bs parts.begins) ∙ sym (pair_bytes (take 4 bs) (take 4 (drop 6 bs)) (drop 10 bs));
      meant = rw high refl;
    }

abbrev length_of : Result ℕ DescentKind → ℕ
length_of r = result_unwrap_or r 0

unicode_form : (bs : List ℕ) (n : ℕ) → unicode_escape bs ≡ Ok n → Escape n (0x75 ∷ bs)
unicode_form bs n e = elim (cases_Bool (is_hex (take 4 bs))) [
  | inr none ↦ absurd (let wrong = rw none at e in cc)
  | inl hex ↦
      let e₁ = rw hex at e in
      elim (cases_Bool (is_high_surrogate (hex_value (take 4 bs)))) [
        | inl high ↦
            let e₂ = rw high at e₁ in
            elim (cases_Bool (begins_with_low_surrogate (drop 4 bs))) [
              | inl low ↦ let e₃ = rw low at e₂ in subst (λ m. Escape m (0x75 ∷ bs)) (ap length_of e₃) (pair_form bs hex high low)
              | inr none ↦ absurd (let wrong = rw none at e₂ in cc)
            ]
        | inr other ↦
            let e₂ = rw other at e₁ in
            elim (cases_Bool (is_low_surrogate (hex_value (take 4 bs)))) [
              | inl low ↦ absurd (let wrong = rw low at e₂ in cc)
              | inr neither ↦ let e₃ = rw neither at e₂ in subst (λ m. Escape m (0x75 ∷ bs)) (ap length_of e₃) (unit_form bs hex other neither)
            ]
      ]
]

pub escape_form : (bs : List ℕ) (n : ℕ) → escape bs ≡ Ok n → Escape n bs
escape_form [] n e = absurd cc
escape_form (letter ∷ bs) n e = elim (cases_Bool (letter == 0x75)) [
  | inl u ↦ subst (λ l. Escape n (l ∷ bs)) (sym (eqb-true letter 0x75 u)) (unicode_form bs n (rw u at e))
  | inr other ↦
      let e₁ = rw other at e in
      elim (cases_Bool (is_some (short_character letter))) [
        | inl some ↦
            let e₂ = rw some at e₁ in
            let form : Escape 1 (letter ∷ bs) = record { form = short letter; is_form = some; is_escape = tt; long = refl; shown = refl; meant = rw other refl } in
            subst (λ m. Escape m (letter ∷ bs)) (ap length_of e₂) form
        | inr none ↦ absurd (let wrong = rw none at e₁ in cc)
      ]
]

-- ---- and each form is accepted

-- The escape of this form is accepted, before this rest.
pub record Accepted (r : CharacterForm) (bs rest : List ℕ) : Type 0 where
  pub size : ℕ
  pub accepted : escape bs ≡ Ok size
  pub behind : drop size bs ≡ rest
  pub meant : escaped_character bs ≡ form_character r

accepted_short : (letter : ℕ) (rest : List ℕ) → IsSome (short_character letter) → Accepted (short letter) (letter ∷ rest) rest
accepted_short letter rest some =
    let no_u = ne_eqb letter 0x75 (λ u. let none : IsSome (short_character 0x75) = subst (λ l. IsSome (short_character l)) u some in false≢true none) in
    let is_one : is_some (short_character letter) ≡ true = some in
    record { size = 1; accepted = rw (no_u, is_one) refl; behind = refl; meant = rw no_u refl }

accepted_unit : (ds rest : List ℕ) → IsCharacterForm (unit ds) → Accepted (unit ds) (0x75 ∷ (ds ++ rest)) rest
accepted_unit ds rest h =
    let digits = take_at ds rest 4 h.0.0 in
    record {
      size = 5;
      accepted = rw (digits, is_hex-from_IsHex ds h.0, no_high (hex_value ds) h.1, no_low (hex_value ds) h.1) refl;
      behind = drop_at ds rest 4 h.0.0;
      meant = rw (digits, no_high (hex_value ds) h.1) refl;
    }

high_test : (n : ℕ) → IsInRange 0xd800 0xdbff n → is_high_surrogate n ≡ true
high_test n h = and_from (nat_le 0xd800 n) (nat_le n 0xdbff) (le-leb 0xd800 n h.0) (le-leb n 0xdbff h.1)

low_test : (n : ℕ) → IsInRange 0xdc00 0xdfff n → is_low_surrogate n ≡ true
low_test n h = and_from (nat_le 0xdc00 n) (nat_le n 0xdfff) (le-leb 0xdc00 n h.0) (le-leb n 0xdfff h.1)

-- bytes that begin with the two units of a pair, without the first backslash and letter
accepted_pair : (high low rest bs : List ℕ) → IsCharacterForm (pair high low) → bs ≡ high ++ 0x5c ∷ 0x75 ∷ (low ++ rest) → Accepted (pair high low) (0x75 ∷ bs) rest
accepted_pair high low rest bs h e =
    let first : take 4 bs ≡ high = ap (λ (xs : List ℕ). take 4 xs) e ∙ take_at high (0x5c ∷ 0x75 ∷ (low ++ rest)) 4 h.0.0 in
    let four : drop 4 bs ≡ 0x5c ∷ 0x75 ∷ (low ++ rest) = ap (λ (xs : List ℕ). drop 4 xs) e ∙ drop_at high (0x5c ∷ 0x75 ∷ (low ++ rest)) 4 h.0.0 in
    let six : drop 6 bs ≡ low ++ rest = sym (drop-drop 2 4 bs) ∙ ap (λ (xs : List ℕ). drop 2 xs) four in
    let second : take 4 (low ++ rest) ≡ low = take_at low rest 4 h.1.0 in
    let ten : drop 10 bs ≡ rest = sym (drop-drop 4 6 bs) ∙ ap (λ (xs : List ℕ). drop 4 xs) six ∙ drop_at low rest 4 h.1.0 in
    let is_low : begins_with_low_surrogate (0x5c ∷ 0x75 ∷ (low ++ rest)) ≡ true = rw (second, is_hex-from_IsHex low h.1, low_test (hex_value low) h.3) refl in
    record {
      size = 11;
      accepted = rw (first, is_hex-from_IsHex high h.0, high_test (hex_value high) h.2, ap begins_with_low_surrogate four ∙ is_low) refl;
      behind = ten;
      meant = rw (first, six, second, high_test (hex_value high) h.2) refl;
    }

pub form_accepted : (r : CharacterForm) (bs rest : List ℕ) → IsCharacterForm r → IsEscape r → 0x5c ∷ bs ≡ form_bytes r ++ rest → Accepted r bs rest
form_accepted (raw c) bs rest h k e = absurd k
form_accepted (short letter) bs rest h k e = subst (λ (xs : List ℕ). Accepted (short letter) xs rest) (sym (cons_parts e).1) (accepted_short letter rest h)
form_accepted (unit ds) bs rest h k e = subst (λ (xs : List ℕ). Accepted (unit ds) xs rest) (sym (cons_parts e).1) (accepted_unit ds rest h)
form_accepted (pair high low) bs rest h k e =
    subst (λ (xs : List ℕ). Accepted (pair high low) xs rest) (sym (cons_parts e).1) (accepted_pair high low rest ((high ++ 0x5c ∷ 0x75 ∷ low) ++ rest) h (append_assoc high (0x5c ∷ 0x75 ∷ low) rest))

-- ---- escapes by their parts, as they are read

pub unicode_escape-no_digits : (bs : List ℕ) → (IsHex (take 4 bs) → ⊥) → unicode_escape bs ≡ Err InvalidUnicodeEscape
unicode_escape-no_digits bs none = rw (false_from_ne_true (is_hex (take 4 bs)) (λ e. none (IsHex-from_is_hex (take 4 bs) e))) refl

pub unicode_escape-unit : (bs : List ℕ) → IsHex (take 4 bs) → is_high_surrogate (hex_value (take 4 bs)) ≡ false → IsScalar (hex_value (take 4 bs)) → (unicode_escape bs ≡ Ok 5) × (escaped_character (0x75 ∷ bs) ≡ hex_value (take 4 bs))
unicode_escape-unit bs h high s = (rw (is_hex-from_IsHex (take 4 bs) h, high, no_low (hex_value (take 4 bs)) s) refl, rw high refl)

pub unicode_escape-low : (bs : List ℕ) → IsHex (take 4 bs) → is_high_surrogate (hex_value (take 4 bs)) ≡ false → (IsScalar (hex_value (take 4 bs)) → ⊥) → unicode_escape bs ≡ Err InvalidUnicodeCodepoint
unicode_escape-low bs h high none =
    let low = true_from_ne_false (is_low_surrogate (hex_value (take 4 bs))) (λ e. none (unit_scalar (hex_value (take 4 bs)) (hex_value-lt (take 4 bs) h) high e)) in
    rw (is_hex-from_IsHex (take 4 bs) h, high, low) refl

pub unicode_escape-pair : (bs : List ℕ) → IsHex (take 4 bs) → is_high_surrogate (hex_value (take 4 bs)) ≡ true → Low (drop 4 bs) → (unicode_escape bs ≡ Ok 11) × (escaped_character (0x75 ∷ bs) ≡ 0x10000 + (hex_value (take 4 bs) - 0xd800) * 0x400 + (hex_value (take 4 (drop 2 (drop 4 bs))) - 0xdc00))
unicode_escape-pair bs h high low = (rw (is_hex-from_IsHex (take 4 bs) h, high, low_from_parts (drop 4 bs) low) refl, rw (high, drop-drop 2 4 bs) refl)

pub unicode_escape-high : (bs : List ℕ) → IsHex (take 4 bs) → is_high_surrogate (hex_value (take 4 bs)) ≡ true → (begins_with_low_surrogate (drop 4 bs) ≡ true → ⊥) → unicode_escape bs ≡ Err InvalidUnicodeCodepoint
unicode_escape-high bs h high none = rw (is_hex-from_IsHex (take 4 bs) h, high, false_from_ne_true (begins_with_low_surrogate (drop 4 bs)) none) refl

pub pair_scalar : (high low : ℕ) → is_high_surrogate high ≡ true → is_low_surrogate low ≡ true → IsScalar (0x10000 + (high - 0xd800) * 0x400 + (low - 0xdc00))
pair_scalar high low a b = let h = high_range high a in let l = low_range low b in IsScalar-pair high low h.0 h.1 l.0 l.1
