-- One form of a body, and what stands behind it.
use Rattle.std.specs.Prelude.{◌≡◌, ◌≢◌, ℕ, zero, suc, ◌<◌, ◌≤◌, ◌+◌, true, false, List, [], ◌∷◌, ◌++◌, length, drop, is_some, IsSome, not, ◌||◌, nat_le, Result, Ok, encode_utf8}
use Rattle.std.specs.List.{AllByRecursion}
use Rattle.std.specs.Char.{IsScalar}
use Rattle.std.specs.Result.{result_unwrap_or}
use Rattle.std.specs.Str.Parse.{AllDigits}
use Rattle.std.proofs.Common.{refl, sym, ap, ap₂, ◌∙◌, subst, inl, inr, arith, append_assoc}
use Rattle.std.proofs.lemmas.Bool.{cases_lt, ne_eqb, agree_below_at, leb-true}
use Rattle.std.proofs.lemmas.Str.{encode_ascii}
use Rattle.sj_parse.specs.declared.descent_fault.DescentKind.{DescentKind}
use Rattle.sj_base.specs.Characters.{CharacterForm, raw, short, unit, pair, short_character, IsCharacterForm, form_bytes, form_character}
use Rattle.sj_base.proofs.Fronts.{AllByRecursion-append, AllByRecursion-weaker}
use Rattle.sj_base.proofs.Quotes.{high_bytes}
use Rattle.sj_base.proofs.Utf8.{letter_ascii, hex_ascii}
use Rattle.sj_parse.specs.Escapes.{escape, past_escape, bad_escape, bad_escape_behind}
use Rattle.sj_parse.specs.inside.Decoded.{escaped_character, decoded, decoded_behind}
use Rattle.sj_parse.specs.inside.WordBytes.{is_inner_from}
use Rattle.sj_parse.proofs.EscapeForms.{hex_byte, IsEscape, Accepted, form_accepted}

-- ---- bytes that belong to an escape before

pub decoded_behind-drop : (n : ℕ) (bs : List ℕ) → decoded_behind n bs ≡ decoded (drop n bs)
decoded_behind-drop zero bs = refl
decoded_behind-drop (suc n) [] = refl
decoded_behind-drop (suc n) (b ∷ bs) = decoded_behind-drop n bs

pub bad_escape_behind-drop : (n place : ℕ) (bs : List ℕ) → bad_escape_behind n place bs ≡ bad_escape (n + place) (drop n bs)
bad_escape_behind-drop zero place bs = let same : place ≡ 0 + place = omega arith in ap (λ p. bad_escape p bs) same
bad_escape_behind-drop (suc n) place [] = refl
bad_escape_behind-drop (suc n) place (b ∷ bs) =
    let same : n + suc place ≡ suc n + place = omega arith in
    bad_escape_behind-drop n (suc place) bs ∙ ap (λ p. bad_escape p (drop n bs)) same

-- ---- bytes that stand for themselves

abbrev pub IsPlain : ℕ → Type 0
IsPlain b = (0x20 ≤ b) × (b ≢ 0x22) × (b ≢ 0x5c)

inner-plain : (xs rest : List ℕ) → AllByRecursion IsPlain xs → is_inner_from false (xs ++ rest) ≡ is_inner_from false rest
inner-plain [] rest h = refl
inner-plain (x ∷ xs) rest h = rw (ne_eqb x 0x22 h.0.1, ne_eqb x 0x5c h.0.2) (inner-plain xs rest h.1)

pub decoded-raw : (xs rest : List ℕ) → AllByRecursion (λ b. b ≢ 0x5c) xs → decoded (xs ++ rest) ≡ xs ++ decoded rest
decoded-raw [] rest h = refl
decoded-raw (x ∷ xs) rest h = rw (ne_eqb x 0x5c h.0) (ap (λ (ys : List ℕ). x ∷ ys) (decoded-raw xs rest h.1))

pub bad_escape-raw : (xs rest : List ℕ) (place : ℕ) → AllByRecursion (λ b. b ≢ 0x5c) xs → bad_escape place (xs ++ rest) ≡ bad_escape (length xs + place) rest
bad_escape-raw [] rest place h = let same : place ≡ 0 + place = omega arith in ap (λ p. bad_escape p rest) same
bad_escape-raw (x ∷ xs) rest place h =
    let same : length xs + suc place ≡ suc (length xs) + place = omega arith in
    rw (ne_eqb x 0x5c h.0) (bad_escape-raw xs rest (suc place) h.1 ∙ ap (λ p. bad_escape p rest) same)

pub hex_plain : (ds : List ℕ) → AllDigits 16 ds → AllByRecursion IsPlain ds
hex_plain [] h = tt
hex_plain (d ∷ ds) h = (hex_byte d h.0, hex_plain ds h.1)

-- the bytes of a character are ASCII, or none is
pub raw_bytes : (P : ℕ → Type 0) (c : ℕ) → P c → ((b : ℕ) → 128 ≤ b → P b) → AllByRecursion P (encode_utf8 c)
raw_bytes P c at_ascii above = elim (cases_lt c 128) [
  | inl low ↦ subst (λ (ys : List ℕ). AllByRecursion P ys) (sym (encode_ascii c low)) (at_ascii, tt)
  | inr high ↦ AllByRecursion-weaker (λ b. 128 ≤ b) P above (encode_utf8 c) (high_bytes c high)
]

pub character_plain : (c : ℕ) → IsCharacterForm (raw c) → AllByRecursion IsPlain (encode_utf8 c)
character_plain c h = raw_bytes IsPlain c (h.1, h.2, h.3) (λ b high. (omega arith, λ e. omega arith, λ e. omega arith))

-- ---- one form and what stands behind it

-- the letter of an escape
pub letter_low : (letter : ℕ) → IsSome (short_character letter) → 0x20 ≤ letter
letter_low letter h =
    let ascii = letter_ascii letter h in
    let either = agree_below_at (λ c. not (is_some (short_character c)) || nat_le 0x20 c) (λ c. true) 128 letter refl ascii in
    let some : is_some (short_character letter) ≡ true = h in
    leb-true 0x20 letter (rw some at either)

pub escape_bytes : (r : CharacterForm) → IsCharacterForm r → IsEscape r → AllByRecursion (λ b. b < 128) (form_bytes r)
escape_bytes (raw c) h k = absurd k
escape_bytes (short letter) h k = (omega arith, (letter_ascii letter h, tt))
escape_bytes (unit ds) h k = (omega arith, (omega arith, hex_ascii ds h.0.1))
escape_bytes (pair high low) h k = (omega arith, (omega arith, AllByRecursion-append (λ b. b < 128) high (0x5c ∷ 0x75 ∷ low) (hex_ascii high h.0.1) (omega arith, (omega arith, hex_ascii low h.1.1))))

pub inner-form : (r : CharacterForm) (rest : List ℕ) → IsCharacterForm r → is_inner_from false (form_bytes r ++ rest) ≡ is_inner_from false rest
inner-form (raw c) rest h = inner-plain (encode_utf8 c) rest (character_plain c h)
inner-form (short letter) rest h = refl
inner-form (unit ds) rest h = inner-plain ds rest (hex_plain ds h.0.1)
inner-form (pair high low) rest h =
    ap (λ (xs : List ℕ). is_inner_from false xs) (append_assoc high (0x5c ∷ 0x75 ∷ low) rest)
    ∙ inner-plain high (0x5c ∷ 0x75 ∷ (low ++ rest)) (hex_plain high h.0.1)
    ∙ inner-plain low rest (hex_plain low h.1.1)

-- what an escape and the bytes behind it mean
pub decoded-escape : (bs : List ℕ) (n c : ℕ) → escape bs ≡ Ok n → escaped_character bs ≡ c → decoded (0x5c ∷ bs) ≡ encode_utf8 c ++ decoded (drop n bs)
decoded-escape bs n c e same =
    ap₂ (λ x m. encode_utf8 x ++ decoded_behind m bs) same (ap (λ (q : Result ℕ DescentKind). result_unwrap_or q 0) e)
    ∙ ap (λ (ys : List ℕ). encode_utf8 c ++ ys) (decoded_behind-drop n bs)

pub bad_escape-escape : (bs : List ℕ) (n place : ℕ) → escape bs ≡ Ok n → bad_escape place (0x5c ∷ bs) ≡ bad_escape (n + suc place) (drop n bs)
bad_escape-escape bs n place e = ap (λ (q : Result ℕ DescentKind). past_escape q place (λ m. bad_escape_behind m (suc place) bs)) e ∙ bad_escape_behind-drop n (suc place) bs

-- A form whose character may still be a quote or a control character.
abbrev pub IsRead : CharacterForm → Type 0
IsRead (raw c) = IsScalar c × (c ≢ 0x5c)
IsRead (short letter) = IsCharacterForm (short letter)
IsRead (unit ds) = IsCharacterForm (unit ds)
IsRead (pair high low) = IsCharacterForm (pair high low)

pub read_escape : (r : CharacterForm) → IsCharacterForm r → IsEscape r → IsRead r
read_escape (raw c) h k = absurd k
read_escape (short letter) h k = h
read_escape (unit ds) h k = h
read_escape (pair high low) h k = h

pub read_form : (r : CharacterForm) → IsCharacterForm r → IsRead r
read_form (raw c) h = (h.0, h.3)
read_form (short letter) h = h
read_form (unit ds) h = h
read_form (pair high low) h = h

-- What is read of a form and what stands behind it.
pub record Step (r : CharacterForm) (rest : List ℕ) : Type 0 where
  pub text : decoded (form_bytes r ++ rest) ≡ encode_utf8 (form_character r) ++ decoded rest
  pub size : ℕ
  pub stops : (place : ℕ) → bad_escape place (form_bytes r ++ rest) ≡ bad_escape (size + place) rest

step_escape : (r : CharacterForm) (bs rest : List ℕ) → 0x5c ∷ bs ≡ form_bytes r ++ rest → Accepted r bs rest → Step r rest
step_escape r bs rest e a = record {
  text = ap decoded (sym e) ∙ decoded-escape bs a.size (form_character r) a.accepted a.meant ∙ ap (λ (xs : List ℕ). encode_utf8 (form_character r) ++ decoded xs) a.behind;
  size = suc a.size;
  stops = λ place.
      let same : a.size + suc place ≡ suc a.size + place = omega arith in
      ap (λ (xs : List ℕ). bad_escape place xs) (sym e) ∙ bad_escape-escape bs a.size place a.accepted
      ∙ ap (λ (xs : List ℕ). bad_escape (a.size + suc place) xs) a.behind ∙ ap (λ p. bad_escape p rest) same;
}

pub step_form : (r : CharacterForm) (rest : List ℕ) → IsRead r → Step r rest
step_form (raw c) rest h =
    let bytes = raw_bytes (λ b. b ≢ 0x5c) c h.1 (λ b high e. omega arith) in
    record {
      text = decoded-raw (encode_utf8 c) rest bytes;
      size = length (encode_utf8 c);
      stops = λ place. bad_escape-raw (encode_utf8 c) rest place bytes;
    }
step_form (short letter) rest h = step_escape (short letter) (letter ∷ rest) rest refl (form_accepted (short letter) (letter ∷ rest) rest h tt refl)
step_form (unit ds) rest h = step_escape (unit ds) (0x75 ∷ (ds ++ rest)) rest refl (form_accepted (unit ds) (0x75 ∷ (ds ++ rest)) rest h tt refl)
step_form (pair high low) rest h =
    step_escape (pair high low) (0x75 ∷ ((high ++ 0x5c ∷ 0x75 ∷ low) ++ rest)) rest refl (form_accepted (pair high low) (0x75 ∷ ((high ++ 0x5c ∷ 0x75 ∷ low) ++ rest)) rest h tt refl)
