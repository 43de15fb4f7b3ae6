-- A printed string spells its text: each character is printed as a form.
use Rattle.std.specs.Prelude.{◌≡◌, ℕ, ◌≤◌, ◌<◌, ◌-◌, ◌+◌, true, ◌==◌, nat_lt, List, [], ◌∷◌, ◌++◌, length, encode_utf8, flat_map, IsUtf8}
use Rattle.std.specs.List.{AllByRecursion}
use Rattle.std.specs.Char.{IsScalar, digit_char}
use Rattle.std.specs.Str.{all_scalars, encode_utf8_all}
use Rattle.std.proofs.Common.{refl, sym, ap, ap₂, ◌∙◌, subst, inl, inr, arith, append-nil, get_or}
use Rattle.std.proofs.lemmas.Bool.{cases_lt, and_parts, cond_both, eqb-true, eqb-false, ltb-true, ltb-false, ne_eqb, le-ltb}
use Rattle.std.proofs.lemmas.List.Concat.{flat_map-append}
use Rattle.std.proofs.lemmas.List.Elements.{recursion_from_All, All-from_get_or}
use Rattle.std.proofs.lemmas.Str.{encode_ascii, inside_one, digit_value-digit_char}
use Rattle.sj_base.specs.Characters.{CharacterForm, raw, short, unit, hex_value, IsHex, IsCharacterForm, form_bytes, form_character, Means}
use Rattle.sj_base.specs.Spelling.{SpellsString}
use Rattle.sj_base.specs.Text.{escaped, quoted}

-- a form of the character with these bytes
record Shows (c : ℕ) (bytes : List ℕ) : Type 0 where
  form : CharacterForm
  is_form : IsCharacterForm form
  shown : bytes ≡ form_bytes form
  meant : c ≡ form_character form

-- an escape with its last digit behind 000
low_digits : (d : ℕ) → d < 16 → IsHex (0x30 ∷ 0x30 ∷ 0x30 ∷ digit_char d ∷ []) × (hex_value (0x30 ∷ 0x30 ∷ 0x30 ∷ digit_char d ∷ []) ≡ d)
low_digits d h = let v = digit_value-digit_char d (omega arith) in ((refl, (omega arith, (omega arith, (omega arith, (omega arith, tt))))), omega arith)

-- the same behind 001
high_digits : (d : ℕ) → d < 16 → IsHex (0x30 ∷ 0x30 ∷ 0x31 ∷ digit_char d ∷ []) × (hex_value (0x30 ∷ 0x30 ∷ 0x31 ∷ digit_char d ∷ []) ≡ 16 + d)
high_digits d h = let v = digit_value-digit_char d (omega arith) in ((refl, (omega arith, (omega arith, (omega arith, (omega arith, tt))))), omega arith)

-- an ASCII character is printed as a form
ascii_shows : (c : ℕ) → IsScalar c → c < 128 → Shows c (escaped c)
ascii_shows c s low =
    let P : List ℕ → Type 0 = λ bs. Shows c bs in
    cond_both (c == 0x22) _ _ P (λ e. record { form = short 0x22; is_form = refl; shown = refl; meant = eqb-true c 0x22 e }) (λ quote.
    cond_both (c == 0x5c) _ _ P (λ e. record { form = short 0x5c; is_form = refl; shown = refl; meant = eqb-true c 0x5c e }) (λ backslash.
    cond_both (c == 0x08) _ _ P (λ e. record { form = short 0x62; is_form = refl; shown = refl; meant = eqb-true c 0x08 e }) (λ _.
    cond_both (c == 0x09) _ _ P (λ e. record { form = short 0x74; is_form = refl; shown = refl; meant = eqb-true c 0x09 e }) (λ _.
    cond_both (c == 0x0a) _ _ P (λ e. record { form = short 0x6e; is_form = refl; shown = refl; meant = eqb-true c 0x0a e }) (λ _.
    cond_both (c == 0x0c) _ _ P (λ e. record { form = short 0x66; is_form = refl; shown = refl; meant = eqb-true c 0x0c e }) (λ _.
    cond_both (c == 0x0d) _ _ P (λ e. record { form = short 0x72; is_form = refl; shown = refl; meant = eqb-true c 0x0d e }) (λ _.
    cond_both (nat_lt c 0x10) _ _ P (λ e.
    let d = low_digits c (ltb-true c 0x10 e) in
    record { form = unit (0x30 ∷ 0x30 ∷ 0x30 ∷ digit_char c ∷ []); is_form = (d.0, subst IsScalar (sym d.1) s); shown = refl; meant = sym d.1 }) (λ above.
    cond_both (nat_lt c 0x20) _ _ P (λ e.
    let least = ltb-false c 0x10 above in
    let most = ltb-true c 0x20 e in
    let d = high_digits (c - 0x10) (omega arith) in
    let same : 16 + (c - 0x10) ≡ c = omega arith in
    record { form = unit (0x30 ∷ 0x30 ∷ 0x31 ∷ digit_char (c - 0x10) ∷ []); is_form = (d.0, subst IsScalar (sym (d.1 ∙ same)) s); shown = refl; meant = sym (d.1 ∙ same) }) (λ e.
    record { form = raw c; is_form = (s, ltb-false c 0x20 e, eqb-false c 0x22 quote, eqb-false c 0x5c backslash); shown = sym (encode_ascii c low); meant = refl })))))))))

-- A byte that isn't ASCII is printed raw.
high_escaped : (b : ℕ) → 128 ≤ b → escaped b ≡ b ∷ []
high_escaped b h = rw (ne_eqb b 0x22 (λ e. omega arith), ne_eqb b 0x5c (λ e. omega arith), ne_eqb b 0x08 (λ e. omega arith), ne_eqb b 0x09 (λ e. omega arith), ne_eqb b 0x0a (λ e. omega arith), ne_eqb b 0x0c (λ e. omega arith), ne_eqb b 0x0d (λ e. omega arith), le-ltb b 0x10 (omega arith), le-ltb b 0x20 (omega arith)) refl

-- Several such bytes are printed raw.
high_raw : (bs : List ℕ) → AllByRecursion (λ b. 128 ≤ b) bs → flat_map escaped bs ≡ bs
high_raw [] h = refl
high_raw (b ∷ bs) h = ap₂ (λ (xs ys : List ℕ). xs ++ ys) (high_escaped b h.0) (high_raw bs h.1)

-- as those of a character of several bytes
pub high_bytes : (c : ℕ) → 128 ≤ c → AllByRecursion (λ b. 128 ≤ b) (encode_utf8 c)
high_bytes c h = recursion_from_All (λ b. 128 ≤ b) (encode_utf8 c) (All-from_get_or (λ b. 128 ≤ b) (encode_utf8 c) 0 (λ i lt. byte i lt))
  where
    byte : (i : ℕ) → i < length (encode_utf8 c) → 128 ≤ get_or (encode_utf8 c) i 0
    byte i lt =
        elim (cases_lt (get_or (encode_utf8 c) i 0) 128) [
          | inl low ↦ let same = inside_one c [] (encode_utf8 c) i (sym (append-nil (encode_utf8 c))) lt low in absurd (omega arith)
          | inr high ↦ high
        ]

-- each character is printed as a form
shows : (c : ℕ) → IsScalar c → Shows c (flat_map escaped (encode_utf8 c))
shows c s =
    elim (cases_lt c 128) [
      | inl low ↦ subst (λ (bs : List ℕ). Shows c bs) (sym (ap (λ (bs : List ℕ). flat_map escaped bs) (encode_ascii c low) ∙ append-nil (escaped c))) (ascii_shows c s low)
      | inr high ↦ record { form = raw c; is_form = (s, omega arith, λ e. omega arith, λ e. omega arith); shown = high_raw (encode_utf8 c) (high_bytes c high); meant = refl }
    ]

-- all characters of a text
shows_all : (cs : List ℕ) → all_scalars cs ≡ true → Means (flat_map escaped (encode_utf8_all cs)) (encode_utf8_all cs)
shows_all [] s = record { forms = []; are_forms = tt; shown = refl; meant = refl }
shows_all (c ∷ cs) s =
    let p = and_parts _ _ s in
    let first = shows c p.0 in
    let m = shows_all cs p.1 in
    record {
      forms = first.form ∷ m.forms;
      are_forms = (first.is_form, m.are_forms);
      shown = flat_map-append escaped (encode_utf8 c) (encode_utf8_all cs) ∙ ap₂ (λ (xs ys : List ℕ). xs ++ ys) first.shown m.shown;
      meant = ap₂ (λ x (ys : List ℕ). encode_utf8 x ++ ys) first.meant m.meant;
    }

-- A printed string spells its text.
pub quoted_spells : (s : List ℕ) → IsUtf8 s → SpellsString s (quoted s)
quoted_spells s u = record { body = flat_map escaped s; parts = refl; means = subst (λ (ys : List ℕ). Means (flat_map escaped ys) ys) u.1.1 (shows_all u.0 u.1.0) }
