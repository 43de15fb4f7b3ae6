-- Strings: the body up to the closing quote has one text.
use Rattle.std.specs.Prelude.{◌≡◌, ℕ, ◌≤◌, ◌<◌, List, [], ◌∷◌, ◌++◌, encode_utf8, flat_map}
use Rattle.std.specs.List.{AllByRecursion}
use Rattle.std.specs.Char.{IsScalar}
use Rattle.std.specs.Int.{IsInRange}
use Rattle.std.proofs.Common.{refl, sym, ap, ap₂, ◌∙◌, subst, arith, append_assoc, take, drop, take_at, drop_at}
use Rattle.std.proofs.lemmas.Bool.{false≢true, le-ltb, lt-leb}
use Rattle.std.proofs.lemmas.Str.{encode_ascii, encode_same}
use Rattle.sj_base.specs.Characters.{CharacterForm, raw, short, unit, pair, hex_value, IsHex, IsCharacterForm, form_bytes, form_character}
use Rattle.sj_base.specs.Spelling.{SpellsString}
use Rattle.sj_base.proofs.Fronts.{cons_parts}

-- A character whose first byte is ASCII is that byte.
ascii_first : (c b : ℕ) (xs ys : List ℕ) → b < 128 → encode_utf8 c ++ xs ≡ b ∷ ys → c ≡ b
ascii_first c b xs ys low e = (encode_same c b xs ys (e ∙ ap (λ (zs : List ℕ). zs ++ ys) (sym (encode_ascii b low)))).0

-- no form begins with a quote
no_quote : (p : CharacterForm) (xs ys : List ℕ) → IsCharacterForm p → form_bytes p ++ xs ≡ 0x22 ∷ ys → ⊥
no_quote (raw c) xs ys h e = h.2 (ascii_first c 0x22 xs ys (omega arith) e)
no_quote (short letter) xs ys h e = let b = (cons_parts e).0 in omega arith
no_quote (unit ds) xs ys h e = let b = (cons_parts e).0 in omega arith
no_quote (pair high low) xs ys h e = let b = (cons_parts e).0 in omega arith

-- The split after four digits is unique.
same_hex : (ds es xs ys : List ℕ) → IsHex ds → IsHex es → ds ++ xs ≡ es ++ ys → (ds ≡ es) × (xs ≡ ys)
same_hex ds es xs ys h k e = (
  sym (take_at ds xs 4 h.0) ∙ ap (λ (zs : List ℕ). take 4 zs) e ∙ take_at es ys 4 k.0,
  sym (drop_at ds xs 4 h.0) ∙ ap (λ (zs : List ℕ). drop 4 zs) e ∙ drop_at es ys 4 k.0,
)

-- A surrogate is not a scalar value.
no_scalar : (n : ℕ) → IsInRange 0xd800 0xdbff n → IsScalar n → ⊥
no_scalar n h s =
    let high : n ≤ 0xdbff = h.1 in
    false≢true (rw (le-ltb n 55296 h.0, lt-leb 57344 n (omega arith)) at s)

-- what stands behind the first digits of a pair
pub pair_bytes : (high low xs : List ℕ) → form_bytes (pair high low) ++ xs ≡ 0x5c ∷ 0x75 ∷ (high ++ 0x5c ∷ 0x75 ∷ (low ++ xs))
pair_bytes high low xs = ap (λ (zs : List ℕ). 0x5c ∷ 0x75 ∷ zs) (append_assoc high (0x5c ∷ 0x75 ∷ low) xs)

-- An escape of one unit and one of two units have different bytes.
no_pair : (ds high low xs ys : List ℕ) → IsCharacterForm (unit ds) → IsCharacterForm (pair high low) → form_bytes (unit ds) ++ xs ≡ form_bytes (pair high low) ++ ys → ⊥
no_pair ds high low xs ys h k e =
    let rest = cons_parts ((cons_parts (e ∙ pair_bytes high low ys)).1) in
    let p = same_hex ds high xs (0x5c ∷ 0x75 ∷ (low ++ ys)) h.0 k.0 rest.1 in
    no_scalar (hex_value high) k.2 (subst (λ zs. IsScalar (hex_value zs)) p.0 h.1)

-- `u` isn't the letter of a short escape.
no_letter : (letter : ℕ) (xs ys : List ℕ) → IsCharacterForm (short letter) → 0x5c ∷ letter ∷ xs ≡ 0x5c ∷ 0x75 ∷ ys → ⊥
no_letter letter xs ys h e =
    let u : letter ≡ 0x75 = (cons_parts ((cons_parts e).1)).0 in
    let none : IsCharacterForm (short 0x75) = subst (λ l. IsCharacterForm (short l)) u h in
    false≢true none

-- The split after a pair of surrogates is unique, and so is its character.
same_pair : (high low up down xs ys : List ℕ) → IsCharacterForm (pair high low) → IsCharacterForm (pair up down) → form_bytes (pair high low) ++ xs ≡ form_bytes (pair up down) ++ ys → (form_character (pair high low) ≡ form_character (pair up down)) × (xs ≡ ys)
same_pair high low up down xs ys h k e =
    let digits = cons_parts ((cons_parts (sym (pair_bytes high low xs) ∙ e ∙ pair_bytes up down ys)).1) in
    let p = same_hex high up (0x5c ∷ 0x75 ∷ (low ++ xs)) (0x5c ∷ 0x75 ∷ (down ++ ys)) h.0 k.0 digits.1 in
    let q = same_hex low down xs ys h.1 k.1 (cons_parts ((cons_parts p.1).1)).1 in
    (ap₂ (λ a b. form_character (pair a b)) p.0 q.0, q.1)

-- The split after a form is unique, and so is its character.
same_form : (p q : CharacterForm) (xs ys : List ℕ) → IsCharacterForm p → IsCharacterForm q → form_bytes p ++ xs ≡ form_bytes q ++ ys → (form_character p ≡ form_character q) × (xs ≡ ys)
same_form (raw c) (raw d) xs ys h k e = encode_same c d xs ys e
same_form (raw c) (short l) xs ys h k e = absurd (h.3 (ascii_first c 0x5c xs (l ∷ ys) (omega arith) e))
same_form (raw c) (unit es) xs ys h k e = absurd (h.3 (ascii_first c 0x5c xs (0x75 ∷ (es ++ ys)) (omega arith) e))
same_form (raw c) (pair up down) xs ys h k e = absurd (h.3 (ascii_first c 0x5c xs (0x75 ∷ ((up ++ 0x5c ∷ 0x75 ∷ down) ++ ys)) (omega arith) e))
same_form (short l) (raw d) xs ys h k e = absurd (k.3 (ascii_first d 0x5c ys (l ∷ xs) (omega arith) (sym e)))
same_form (short l) (short m) xs ys h k e = let p = cons_parts ((cons_parts e).1) in (ap (λ x. form_character (short x)) p.0, p.1)
same_form (short l) (unit es) xs ys h k e = absurd (no_letter l xs (es ++ ys) h e)
same_form (short l) (pair up down) xs ys h k e = absurd (no_letter l xs ((up ++ 0x5c ∷ 0x75 ∷ down) ++ ys) h e)
same_form (unit ds) (raw d) xs ys h k e = absurd (k.3 (ascii_first d 0x5c ys (0x75 ∷ (ds ++ xs)) (omega arith) (sym e)))
same_form (unit ds) (short m) xs ys h k e = absurd (no_letter m ys (ds ++ xs) k (sym e))
same_form (unit ds) (unit es) xs ys h k e =
    let p = same_hex ds es xs ys h.0 k.0 (cons_parts ((cons_parts e).1)).1 in
    (ap hex_value p.0, p.1)
same_form (unit ds) (pair up down) xs ys h k e = absurd (no_pair ds up down xs ys h k e)
same_form (pair high low) (raw d) xs ys h k e = absurd (k.3 (ascii_first d 0x5c ys (0x75 ∷ ((high ++ 0x5c ∷ 0x75 ∷ low) ++ xs)) (omega arith) (sym e)))
same_form (pair high low) (short m) xs ys h k e = absurd (no_letter m ys ((high ++ 0x5c ∷ 0x75 ∷ low) ++ xs) k (sym e))
same_form (pair high low) (unit es) xs ys h k e = absurd (no_pair es high low ys xs k h (sym e))
same_form (pair high low) (pair up down) xs ys h k e = same_pair high low up down xs ys h k e

-- the text of forms
abbrev meaning : List CharacterForm → List ℕ
meaning forms = flat_map (λ r. encode_utf8 (form_character r)) forms

-- the first form and the rest
forms_open : (p : CharacterForm) (ps : List CharacterForm) (xs : List ℕ) → flat_map form_bytes (p ∷ ps) ++ xs ≡ form_bytes p ++ (flat_map form_bytes ps ++ xs)
forms_open p ps xs = append_assoc (form_bytes p) (flat_map form_bytes ps) xs

-- Forms up to a quote have one text.
same_forms : (ps qs : List CharacterForm) (r q : List ℕ) → AllByRecursion IsCharacterForm ps → AllByRecursion IsCharacterForm qs → flat_map form_bytes ps ++ 0x22 ∷ r ≡ flat_map form_bytes qs ++ 0x22 ∷ q → (meaning ps ≡ meaning qs) × (r ≡ q)
same_forms [] [] r q h k e = (refl, (cons_parts e).1)
same_forms [] (y ∷ qs) r q h k e = absurd (no_quote y (flat_map form_bytes qs ++ 0x22 ∷ q) r k.0 (sym (e ∙ forms_open y qs (0x22 ∷ q))))
same_forms (x ∷ ps) [] r q h k e = absurd (no_quote x (flat_map form_bytes ps ++ 0x22 ∷ r) q h.0 (sym (forms_open x ps (0x22 ∷ r)) ∙ e))
same_forms (x ∷ ps) (y ∷ qs) r q h k e =
    let p = same_form x y (flat_map form_bytes ps ++ 0x22 ∷ r) (flat_map form_bytes qs ++ 0x22 ∷ q) h.0 k.0 (sym (forms_open x ps (0x22 ∷ r)) ∙ e ∙ forms_open y qs (0x22 ∷ q)) in
    let rest = same_forms ps qs r q h.1 k.1 p.1 in
    (ap₂ (λ c (zs : List ℕ). encode_utf8 c ++ zs) p.0 rest.0, rest.1)

-- a string and the rest
string_open : (s f r : List ℕ) (h : SpellsString s f) → f ++ r ≡ 0x22 ∷ (flat_map form_bytes h.means.forms ++ 0x22 ∷ r)
string_open s f r h = ap (λ (zs : List ℕ). zs ++ r) h.parts ∙ ap (λ (zs : List ℕ). 0x22 ∷ zs) (append_assoc h.body (0x22 ∷ []) r ∙ ap (λ (zs : List ℕ). zs ++ 0x22 ∷ r) h.means.shown)

-- The split after a string is unique, and the string has one text.
pub same_string : (s t f g r q : List ℕ) → SpellsString s f → SpellsString t g → f ++ r ≡ g ++ q → (s ≡ t) × (r ≡ q)
same_string s t f g r q h k e =
    let p = same_forms h.means.forms k.means.forms r q h.means.are_forms k.means.are_forms (cons_parts (sym (string_open s f r h) ∙ e ∙ string_open t g q k)).1 in
    (h.means.meant ∙ p.0 ∙ sym k.means.meant, p.1)
