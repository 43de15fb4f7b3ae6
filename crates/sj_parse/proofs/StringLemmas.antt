-- Bodies of strings: what the decoder reads of them is what they mean.
use Rattle.std.specs.Prelude.{◌≡◌, ◌≢◌, ℕ, zero, suc, ◌<◌, ◌≤◌, ◌+◌, true, false, ◌==◌, List, [], ◌∷◌, ◌++◌, length, drop, Option, None, Result, Ok, Err, encode_utf8, flat_map, IsUtf8}
use Rattle.std.specs.List.{AllByRecursion}
use Rattle.std.specs.Char.{IsScalar}
use Rattle.std.specs.Str.{all_scalars, encode_utf8_all}
use Rattle.std.proofs.Common.{refl, sym, ap, ◌∙◌, subst, inl, inr, arith, length-append, length-drop}
use Rattle.std.proofs.lemmas.Bool.{false≢true, cases_Bool, cases_lt, and_parts, eqb-true, eqb-false, eq-eqb}
use Rattle.std.proofs.lemmas.Str.{encode_ascii, length-encode, len_utf8_bounds, IsUtf8-nil, IsUtf8-append, IsUtf8-encode, IsUtf8-past_char}
use Rattle.sj_parse.specs.declared.descent_fault.DescentKind.{DescentKind}
use Rattle.sj_base.specs.Characters.{CharacterForm, raw, short, unit, pair, hex_value, IsCharacterForm, form_bytes, form_character, Means}
use Rattle.sj_base.proofs.Fronts.{cons_parts, AllByRecursion-append, AllByRecursion-parts, AllByRecursion-weaker}
use Rattle.sj_base.proofs.Trees.{IsScalar-short, IsScalar-pair}
use Rattle.sj_parse.specs.declared.descent_fault.Stop.{Stop}
use Rattle.sj_parse.specs.Escapes.{escape, past_escape, bad_escape, bad_escape_behind}
use Rattle.sj_parse.specs.inside.Decoded.{decoded}
use Rattle.sj_parse.specs.inside.WordBytes.{is_inner_from, is_inner_body}
use Rattle.sj_parse.proofs.EscapeForms.{Escape, escape_form}
use Rattle.sj_parse.proofs.FormSteps.{bad_escape_behind-drop, IsPlain, hex_plain, character_plain, letter_low, escape_bytes, inner-form, IsRead, read_escape, read_form, Step, step_form}

-- ---- bodies without a bad escape

abbrev shown_by : List CharacterForm → List ℕ
shown_by forms = flat_map form_bytes forms

abbrev meant_by : List CharacterForm → List ℕ
meant_by forms = flat_map (λ r. encode_utf8 (form_character r)) forms

-- the forms that are read of a body
pub record Forms (body : List ℕ) : Type 0 where
  pub forms : List CharacterForm
  pub are_read : AllByRecursion IsRead forms
  pub shown : body ≡ flat_map form_bytes forms
  pub text : decoded body ≡ flat_map (λ r. encode_utf8 (form_character r)) forms

more_forms : (r : CharacterForm) (body rest : List ℕ) → IsRead r → body ≡ form_bytes r ++ rest → Forms rest → Forms body
more_forms r body rest h e f = record {
  forms = r ∷ f.forms;
  are_read = (h, f.are_read);
  shown = e ∙ ap (λ (xs : List ℕ). form_bytes r ++ xs) f.shown;
  text = ap decoded e ∙ (step_form r rest h).text ∙ ap (λ (xs : List ℕ). encode_utf8 (form_character r) ++ xs) f.text;
}

past_escape_parts : (r : Result ℕ DescentKind) (place : ℕ) (rest : ℕ → Option Stop) → past_escape r place rest ≡ None → (n : ℕ) × (r ≡ Ok n) × (rest n ≡ None)
past_escape_parts (Ok n) place rest e = (n, refl, e)
past_escape_parts (Err kind) place rest e = absurd cc

-- the first character of a text
record Opened (bs : List ℕ) : Type 0 where
  first : ℕ
  rest : List ℕ
  is_scalar : IsScalar first
  parts : bs ≡ encode_utf8 first ++ rest
  utf8 : IsUtf8 rest

opened : (b : ℕ) (bs : List ℕ) → IsUtf8 (b ∷ bs) → Opened (b ∷ bs)
opened b bs u = open_chars u.0 u.1.0 u.1.1
  where
    open_chars : (cs : List ℕ) → all_scalars cs ≡ true → encode_utf8_all cs ≡ b ∷ bs → Opened (b ∷ bs)
    open_chars [] s e = absurd cc
    open_chars (c ∷ cs) s e = let p = and_parts _ _ s in record { first = c; rest = encode_utf8_all cs; is_scalar = p.0; parts = sym e; utf8 = (cs, (p.1, refl)) }

-- ASCII in front of a text
behind_ascii : (xs rest : List ℕ) → AllByRecursion (λ b. b < 128) xs → IsUtf8 (xs ++ rest) → IsUtf8 rest
behind_ascii [] rest h u = u
behind_ascii (x ∷ xs) rest h u = behind_ascii xs rest h.1 (IsUtf8-past_char (x ∷ (xs ++ rest)) (xs ++ rest) x u (ap (λ (ys : List ℕ). ys ++ (xs ++ rest)) (sym (encode_ascii x h.0))))

-- Shorter bodies have forms.
abbrev Shorter : ℕ → Type 0
Shorter n = (body : List ℕ) → length body ≤ n → IsUtf8 body → (place : ℕ) → bad_escape place body ≡ None → Forms body

by_escape : (n : ℕ) (bs : List ℕ) (m place : ℕ) → length bs ≤ n → IsUtf8 (0x5c ∷ bs) → bad_escape_behind m (suc place) bs ≡ None → Shorter n → Escape m bs → Forms (0x5c ∷ bs)
by_escape n bs m place long u e shorter f =
    let utf8 = behind_ascii (form_bytes f.form) (drop m bs) (escape_bytes f.form f.is_form f.is_escape) (subst (λ (xs : List ℕ). IsUtf8 xs) f.shown u) in
    let left = length-drop m bs in
    more_forms f.form (0x5c ∷ bs) (drop m bs) (read_escape f.form f.is_form f.is_escape) f.shown
    (shorter (drop m bs) (omega arith) utf8 (m + suc place) (sym (bad_escape_behind-drop m (suc place) bs) ∙ e))

by_character : (n b : ℕ) (bs : List ℕ) (place : ℕ) → length bs ≤ n → (b == 0x5c) ≡ false → bad_escape place (b ∷ bs) ≡ None → Shorter n → Opened (b ∷ bs) → Forms (b ∷ bs)
by_character n b bs place long other e shorter o =
    let no_slash : o.first ≢ 0x5c = λ slash.
    let first : encode_utf8 o.first ++ o.rest ≡ 0x5c ∷ o.rest = ap (λ (c : ℕ). encode_utf8 c ++ o.rest) slash ∙ ap (λ (xs : List ℕ). xs ++ o.rest) (encode_ascii 0x5c (omega arith)) in
    eqb-false b 0x5c other (cons_parts (o.parts ∙ first)).0 in
    let size = ap length o.parts ∙ length-append (encode_utf8 o.first) o.rest in
    let some = length-encode o.first in
    let least = (len_utf8_bounds o.first).0 in
    more_forms (raw o.first) (b ∷ bs) o.rest (o.is_scalar, no_slash) o.parts (behind (step_form (raw o.first) o.rest (o.is_scalar, no_slash)) (omega arith))
  where
    behind : Step (raw o.first) o.rest → length o.rest ≤ n → Forms o.rest
    behind s less = shorter o.rest less o.utf8 (s.size + place) (sym (s.stops place) ∙ ap (λ (xs : List ℕ). bad_escape place xs) (sym o.parts) ∙ e)

forms_within : (n : ℕ) → Shorter n
forms_within n [] long u place e = record { forms = []; are_read = tt; shown = refl; text = refl }
forms_within zero (b ∷ bs) long u place e = absurd (omega arith)
forms_within (suc n) (b ∷ bs) long u place e = elim (cases_Bool (b == 0x5c)) [
  | inl slash ↦
      let p = past_escape_parts (escape bs) place (λ m. bad_escape_behind m (suc place) bs) (rw slash at e) in
      let utf8 = subst (λ x. IsUtf8 (x ∷ bs)) (eqb-true b 0x5c slash) u in
      subst (λ x. Forms (x ∷ bs)) (sym (eqb-true b 0x5c slash)) (by_escape n bs p.0 place (omega arith) utf8 p.2 (forms_within n) (escape_form bs p.0 p.1))
  | inr other ↦ by_character n b bs place (omega arith) other e (forms_within n) (opened b bs u)
]

pub forms_of : (body : List ℕ) → IsUtf8 body → (place : ℕ) → bad_escape place body ≡ None → Forms body
forms_of body u place e = forms_within (length body) body (omega arith) u place e

-- ---- what a body means

-- a body's text is UTF-8
pub IsUtf8-decoded : (body : List ℕ) → IsUtf8 body → (place : ℕ) → bad_escape place body ≡ None → IsUtf8 (decoded body)
IsUtf8-decoded body u place e = let f = forms_of body u place e in subst (λ (xs : List ℕ). IsUtf8 xs) (sym f.text) (all_utf8 f.forms f.are_read)
  where
    scalar : (r : CharacterForm) → IsRead r → IsScalar (form_character r)
    scalar (raw c) h = h.0
    scalar (short letter) h = IsScalar-short letter
    scalar (unit ds) h = h.1
    scalar (pair high low) h = IsScalar-pair (hex_value high) (hex_value low) h.2.0 h.2.1 h.3.0 h.3.1

    all_utf8 : (forms : List CharacterForm) → AllByRecursion IsRead forms → IsUtf8 (meant_by forms)
    all_utf8 [] h = IsUtf8-nil
    all_utf8 (r ∷ forms) h = IsUtf8-append (encode_utf8 (form_character r)) (meant_by forms) (IsUtf8-encode (form_character r) (scalar r h.0)) (all_utf8 forms h.1)

-- Without control characters and real quotes the forms may stand in a body.
form_within : (r : CharacterForm) (rest : List ℕ) → IsRead r → AllByRecursion (λ b. 0x20 ≤ b) (form_bytes r ++ rest) → is_inner_from false (form_bytes r ++ rest) ≡ true → IsCharacterForm r
form_within (raw c) rest h low inner = elim (cases_lt c 128) [
  | inl ascii ↦
      let first : encode_utf8 c ++ rest ≡ c ∷ rest = ap (λ (xs : List ℕ). xs ++ rest) (encode_ascii c ascii) in
      let bytes = subst (λ (xs : List ℕ). AllByRecursion (λ b. 0x20 ≤ b) xs) first low in
      let one : is_inner_from false (c ∷ rest) ≡ true = ap (λ (xs : List ℕ). is_inner_from false xs) (sym first) ∙ inner in
      (h.0, bytes.0, λ quote. false≢true (rw (eq-eqb c 0x22 quote) at one), h.1)
  | inr high ↦ (h.0, omega arith, λ e. omega arith, h.1)
]
form_within (short letter) rest h low inner = h
form_within (unit ds) rest h low inner = h
form_within (pair high low) rest h least inner = h

forms_may_stand : (forms : List CharacterForm) → AllByRecursion IsRead forms → AllByRecursion (λ b. 0x20 ≤ b) (shown_by forms) → is_inner_from false (shown_by forms) ≡ true → AllByRecursion IsCharacterForm forms
forms_may_stand [] h low inner = tt
forms_may_stand (r ∷ forms) h low inner =
    let first = form_within r (shown_by forms) h.0 low inner in
    let rest = AllByRecursion-parts (λ b. 0x20 ≤ b) (form_bytes r) (shown_by forms) low in
    (first, forms_may_stand forms h.1 rest.1 (sym (inner-form r (shown_by forms) first) ∙ inner))

pub Means-decoded : (body : List ℕ) → IsUtf8 body → AllByRecursion (λ b. 0x20 ≤ b) body → is_inner_body body ≡ true → (place : ℕ) → bad_escape place body ≡ None → Means body (decoded body)
Means-decoded body u low inner place e =
    let f = forms_of body u place e in
    record {
      forms = f.forms;
      are_forms = forms_may_stand f.forms f.are_read (subst (λ (xs : List ℕ). AllByRecursion (λ b. 0x20 ≤ b) xs) f.shown low) (ap (λ (xs : List ℕ). is_inner_from false xs) (sym f.shown) ∙ inner);
      shown = f.shown;
      meant = f.text;
    }

-- ---- what means something is a body

form_bytes_low : (r : CharacterForm) → IsCharacterForm r → AllByRecursion (λ b. 0x20 ≤ b) (form_bytes r)
form_bytes_low (raw c) h = AllByRecursion-weaker IsPlain (λ b. 0x20 ≤ b) (λ b p. p.0) (encode_utf8 c) (character_plain c h)
form_bytes_low (short letter) h = (omega arith, (letter_low letter h, tt))
form_bytes_low (unit ds) h = (omega arith, (omega arith, AllByRecursion-weaker IsPlain (λ b. 0x20 ≤ b) (λ b p. p.0) ds (hex_plain ds h.0.1)))
form_bytes_low (pair high low) h = (
  omega arith,
  (
    omega arith,
    AllByRecursion-append (λ b. 0x20 ≤ b) high (0x5c ∷ 0x75 ∷ low)
        (AllByRecursion-weaker IsPlain (λ b. 0x20 ≤ b) (λ b p. p.0) high (hex_plain high h.0.1))
        (omega arith, (omega arith, AllByRecursion-weaker IsPlain (λ b. 0x20 ≤ b) (λ b p. p.0) low (hex_plain low h.1.1))),
  ),
)

-- what holds of a body that its forms show
record Shown (forms : List CharacterForm) : Type 0 where
  inner : is_inner_from false (shown_by forms) ≡ true
  low : AllByRecursion (λ b. 0x20 ≤ b) (shown_by forms)
  no_stop : (place : ℕ) → bad_escape place (shown_by forms) ≡ None
  text : decoded (shown_by forms) ≡ meant_by forms

all_shown : (forms : List CharacterForm) → AllByRecursion IsCharacterForm forms → Shown forms
all_shown [] h = record { inner = refl; low = tt; no_stop = λ place. refl; text = refl }
all_shown (r ∷ forms) h =
    let k = all_shown forms h.1 in
    let s = step_form r (shown_by forms) (read_form r h.0) in
    record {
      inner = inner-form r (shown_by forms) h.0 ∙ k.inner;
      low = AllByRecursion-append (λ b. 0x20 ≤ b) (form_bytes r) (shown_by forms) (form_bytes_low r h.0) k.low;
      no_stop = λ place. s.stops place ∙ k.no_stop (s.size + place);
      text = s.text ∙ ap (λ (xs : List ℕ). encode_utf8 (form_character r) ++ xs) k.text;
    }

pub Means-inner : (body text : List ℕ) → Means body text → (is_inner_body body ≡ true) × AllByRecursion (λ b. 0x20 ≤ b) body × ((place : ℕ) → bad_escape place body ≡ None) × (text ≡ decoded body)
Means-inner body text m =
    let k = all_shown m.forms m.are_forms in (
      ap is_inner_body m.shown ∙ k.inner,
      subst (λ (xs : List ℕ). AllByRecursion (λ b. 0x20 ≤ b) xs) (sym m.shown) k.low,
      λ place. ap (λ (xs : List ℕ). bad_escape place xs) m.shown ∙ k.no_stop place,
      m.meant ∙ sym k.text ∙ ap decoded (sym m.shown),
    )
