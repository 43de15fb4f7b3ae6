-- Decoding in place: what is read and written so far.
use Rattle.std.specs.Prelude.{◌-◌, true, nat_lt, unwrap_or, ◌≡◌, ◌≢◌, ℕ, zero, suc, ◌<◌, ◌≤◌, ◌+◌, List, [], ◌∷◌, ◌++◌, length, take, drop, None, Ok, encode_utf8}
use Rattle.std.specs.Char.{len_utf8}
use Rattle.std.specs.List.{AllByRecursion, copy_within}
use lib.Seq.{paste}
use Rattle.std.proofs.Common.{take_at, refl, sym, ap, ◌∙◌, subst, arith, append_assoc, append-nil, get_or, length-append, length-drop, take-append-drop, drop-drop}
use Rattle.std.proofs.lemmas.List.{drop_more, drop_all, length-take-le}
use Rattle.std.proofs.lemmas.List.Edits.{drop-paste, take-paste, length-paste}
use Rattle.std.proofs.lemmas.Bool.{agree_below_at, ltb-true}
use Rattle.std.proofs.lemmas.Str.{length-encode, len_utf8_bounds, len_utf8_ascii}
use Rattle.std.proofs.Math.Seq.{take-append-add, drop-append-add}
use Rattle.sj_base.specs.Characters.{CharacterForm, raw, short, unit, pair, short_character, hex_value, IsCharacterForm, form_bytes, form_character}
use Rattle.sj_base.proofs.Utf8.{letter_ascii}
use Rattle.sj_parse.specs.Escapes.{escape, bad_escape}
use Rattle.sj_parse.specs.inside.Decoded.{escaped_character, decoded}
use Rattle.sj_parse.proofs.EscapeForms.{IsEscape, Escape, escape_form}
use Rattle.sj_parse.proofs.FormSteps.{decoded-escape, bad_escape-escape, decoded-raw, bad_escape-raw}

-- Of the old bytes so many are read, and what they mean stands in front of the new ones.
pub record Decoding (place read written : ℕ) (old now : List ℕ) : Type 0 where
  pub ordered : written ≤ read
  pub within : read ≤ length old
  pub same_length : length now ≡ length old
  pub rest : drop read now ≡ drop read old
  pub text : decoded old ≡ take written now ++ decoded (drop read old)
  pub stops : bad_escape place old ≡ bad_escape (read + place) (drop read old)

front_raw : (n : ℕ) (bs : List ℕ) → ((k : ℕ) → k < n → get_or bs k 0 ≢ 0x5c) → AllByRecursion (λ b. b ≢ 0x5c) (take n bs)
front_raw zero bs h = tt
front_raw (suc n) [] h = tt
front_raw (suc n) (b ∷ bs) h = (h 0 (omega arith), front_raw n bs (λ k lt. h (suc k) (omega arith)))

pub decoding_starts : (place first : ℕ) (old : List ℕ) → first ≤ length old → ((k : ℕ) → k < first → get_or old k 0 ≢ 0x5c) → Decoding place first first old old
decoding_starts place first old h none =
    let front = front_raw first old none in
    let whole : old ≡ take first old ++ drop first old = sym (take-append-drop first old) in
    let size = length-take-le first old h in
    record {
      ordered = omega arith;
      within = h;
      same_length = refl;
      rest = refl;
      text = ap decoded whole ∙ decoded-raw (take first old) (drop first old) front;
      stops = ap (λ (bs : List ℕ). bad_escape place bs) whole ∙ bad_escape-raw (take first old) (drop first old) place front ∙ ap (λ n. bad_escape (n + place) (drop first old)) size;
    }

-- the next byte and what stands behind it
next_byte : (old now : List ℕ) (read : ℕ) → read < length now → drop read now ≡ drop read old → (drop read old ≡ get_or now read 0 ∷ drop (read + 1) now) × (drop (read + 1) now ≡ drop (read + 1) old)
next_byte old now read h e =
    let first = drop_more now read 0 h in
    (sym e ∙ first, sym (drop-drop 1 read now) ∙ ap (λ (bs : List ℕ). drop 1 bs) e ∙ drop-drop 1 read old)

-- A run without a backslash is copied.
pub decoding_run : (place read written n : ℕ) (old now : List ℕ) → Decoding place read written old now → read + n ≤ length now → ((k : ℕ) → k < n → get_or (drop read now) k 0 ≢ 0x5c) → Decoding place (read + n) (written + n) old (copy_within now read (read + n) written)
decoding_run place read written n old now d h none =
    let ordered = d.ordered in
    let same = d.same_length in
    let size : read + n - read ≡ n = omega arith in
    let left = length-drop read now in
    let front = front_raw n (drop read now) none in
    let run = take n (drop read now) in
    let behind : drop n (drop read now) ≡ drop (read + n) old = ap (λ (bs : List ℕ). drop n bs) d.rest ∙ drop-drop n read old in
    let parts : drop read old ≡ run ++ drop (read + n) old =
    sym d.rest ∙ sym (take-append-drop n (drop read now)) ∙ ap (λ (bs : List ℕ). run ++ bs) behind in
    let long : length run ≡ n = length-take-le n (drop read now) (omega arith) in
    let there : written ≤ length now = omega arith in
    let new = paste now written (drop read now) n in
    let is_new : copy_within now read (read + n) written ≡ new = ap (λ m. paste now written (drop read now) m) size in
    let more : written + n + (read - written) ≡ read + n = omega arith in
    let room : n ≤ length (drop read now) = omega arith in
    let next : n + (read + place) ≡ read + n + place = omega arith in
    let kept : Decoding place (read + n) (written + n) old new = record {
      ordered = omega arith;
      within = omega arith;
      same_length = length-paste now written (drop read now) n (omega arith) room ∙ d.same_length;
      rest = ap (λ m. drop m new) (sym more) ∙ sym (drop-drop (read - written) (written + n) new)
          ∙ ap (λ (bs : List ℕ). drop (read - written) bs) (drop-paste now written (drop read now) n there room)
          ∙ drop-drop (read - written) (written + n) now ∙ ap (λ m. drop m now) more ∙ sym (drop-drop n read now) ∙ behind;
      text = d.text ∙ ap (λ (bs : List ℕ). take written now ++ decoded bs) parts ∙ ap (λ (bs : List ℕ). take written now ++ bs) (decoded-raw run (drop (read + n) old) front)
          ∙ sym (append_assoc (take written now) run (decoded (drop (read + n) old)))
          ∙ ap (λ (bs : List ℕ). bs ++ decoded (drop (read + n) old)) (sym (take-paste now written (drop read now) n there room));
      stops = d.stops ∙ ap (λ (bs : List ℕ). bad_escape (read + place) bs) parts ∙ bad_escape-raw run (drop (read + n) old) (read + place) front
          ∙ ap (λ m. bad_escape (m + (read + place)) (drop (read + n) old)) long ∙ ap (λ p. bad_escape p (drop (read + n) old)) next;
    } in
    subst (λ (bs : List ℕ). Decoding place (read + n) (written + n) old bs) (sym is_new) kept

-- An escape is not shorter than its character, and it is there.
pub record Fits (n : ℕ) (bs : List ℕ) : Type 0 where
  pub within : n ≤ length bs
  pub room : len_utf8 (escaped_character bs) ≤ suc n

form_room : (r : CharacterForm) → IsCharacterForm r → IsEscape r → len_utf8 (form_character r) ≤ length (form_bytes r)
form_room (raw c) h k = absurd k
form_room (short letter) h k =
    let test = agree_below_at (λ l. nat_lt (unwrap_or (short_character l) 0) 128) (λ l. true) 128 letter refl (letter_ascii letter h) in
    let one = len_utf8_ascii (unwrap_or (short_character letter) 0) (ltb-true (unwrap_or (short_character letter) 0) 128 test) in
    omega arith
form_room (unit ds) h k = let most = (len_utf8_bounds (hex_value ds)).1 in let four = h.0.0 in omega arith
form_room (pair high low) h k =
    let most = (len_utf8_bounds (form_character (pair high low))).1 in
    let four = h.0.0 in
    let size = length-append high (0x5c ∷ 0x75 ∷ low) in
    omega arith

pub escape_fits : (bs : List ℕ) (n : ℕ) → escape bs ≡ Ok n → Fits n bs
escape_fits bs n e = fits (escape_form bs n e)
  where
    fits : Escape n bs → Fits n bs
    fits f =
        let size = ap length f.shown ∙ length-append (form_bytes f.form) (drop n bs) in
        let long = f.long in
        let left = length-drop n bs in
        let room : len_utf8 (form_character f.form) ≤ suc n = let r = form_room f.form f.is_form f.is_escape in omega arith in
        record { within = omega arith; room = subst (λ c. len_utf8 c ≤ suc n) (sym f.meant) room }

-- the backslash and what stands behind it
at_slash : (place read written : ℕ) (old now : List ℕ) → Decoding place read written old now → read < length now → get_or now read 0 ≡ 0x5c → drop read old ≡ 0x5c ∷ drop (read + 1) now
at_slash place read written old now d h slash = (next_byte old now read h d.rest).0 ∙ ap (λ b. b ∷ drop (read + 1) now) slash

-- a list with a written part
write_parts : (now : List ℕ) (written len c k : ℕ) → len ≡ length (encode_utf8 c) → written + len + k ≤ length now → (length (take written now ++ (encode_utf8 c ++ drop len (drop written now))) ≡ length now) × (drop (written + len + k) (take written now ++ (encode_utf8 c ++ drop len (drop written now))) ≡ drop (written + len + k) now) × (take (written + len) (take written now ++ (encode_utf8 c ++ drop len (drop written now))) ≡ take written now ++ encode_utf8 c)
write_parts now written len c k e h =
    let size = length-take-le written now (omega arith) in
    let all = length-append (take written now) (encode_utf8 c ++ drop len (drop written now)) in
    let both = length-append (encode_utf8 c) (drop len (drop written now)) in
    let left = length-drop len (drop written now) in
    let right = length-drop written now in
    let place : written + len + k ≡ length (take written now) + (length (encode_utf8 c) + k) = omega arith in
    let stop : written + len ≡ length (take written now) + length (encode_utf8 c) = omega arith in
    let sum : written + (len + k) ≡ written + len + k = omega arith in (
      omega arith,
      ap (λ m. drop m (take written now ++ (encode_utf8 c ++ drop len (drop written now)))) place
          ∙ drop-append-add (take written now) (encode_utf8 c ++ drop len (drop written now)) (length (encode_utf8 c) + k)
          ∙ drop-append-add (encode_utf8 c) (drop len (drop written now)) k
          ∙ drop-drop k len (drop written now) ∙ drop-drop (len + k) written now ∙ ap (λ m. drop m now) sum,
      ap (λ m. take m (take written now ++ (encode_utf8 c ++ drop len (drop written now)))) stop
          ∙ take-append-add (take written now) (encode_utf8 c ++ drop len (drop written now)) (length (encode_utf8 c))
          ∙ ap (λ (ys : List ℕ). take written now ++ ys) (take_at (encode_utf8 c) (drop len (drop written now)) (length (encode_utf8 c)) refl),
    )

pub decoding_escape : (place read written : ℕ) (old now : List ℕ) → Decoding place read written old now → read < length now → get_or now read 0 ≡ 0x5c → (n c : ℕ) → escape (drop (read + 1) now) ≡ Ok n → escaped_character (drop (read + 1) now) ≡ c → Decoding place (read + (1 + n)) (written + len_utf8 c) old (take written now ++ (encode_utf8 c ++ drop (len_utf8 c) (drop written now)))
decoding_escape place read written old now d h slash n c e same =
    let ordered = d.ordered in
    let whole = d.same_length in
    let fits = escape_fits (drop (read + 1) now) n e in
    let within = fits.within in
    let room : len_utf8 c ≤ suc n = subst (λ x. len_utf8 x ≤ suc n) same fits.room in
    let left = length-drop (read + 1) now in
    let stop : written + len_utf8 c + (read + (1 + n) - (written + len_utf8 c)) ≡ read + (1 + n) = omega arith in
    let parts = write_parts now written (len_utf8 c) c (read + (1 + n) - (written + len_utf8 c)) (sym (length-encode c)) (omega arith) in
    let sum : read + 1 + n ≡ read + (1 + n) = omega arith in
    let behind : drop n (drop (read + 1) now) ≡ drop (read + (1 + n)) old =
    ap (λ (bs : List ℕ). drop n bs) (next_byte old now read h d.rest).1 ∙ drop-drop n (read + 1) old ∙ ap (λ m. drop m old) sum in
    let begins = at_slash place read written old now d h slash in
    let next : n + suc (read + place) ≡ read + (1 + n) + place = omega arith in
    record {
      ordered = omega arith;
      within = omega arith;
      same_length = parts.0 ∙ d.same_length;
      rest = ap (λ m. drop m (take written now ++ (encode_utf8 c ++ drop (len_utf8 c) (drop written now)))) (sym stop) ∙ parts.1 ∙ ap (λ m. drop m now) (stop ∙ sym sum) ∙ sym (drop-drop n (read + 1) now) ∙ behind;
      text = d.text ∙ ap (λ (bs : List ℕ). take written now ++ decoded bs) begins
          ∙ ap (λ (bs : List ℕ). take written now ++ bs) (decoded-escape (drop (read + 1) now) n c e same ∙ ap (λ (bs : List ℕ). encode_utf8 c ++ decoded bs) behind)
          ∙ sym (append_assoc (take written now) (encode_utf8 c) (decoded (drop (read + (1 + n)) old)))
          ∙ ap (λ (bs : List ℕ). bs ++ decoded (drop (read + (1 + n)) old)) (sym parts.2);
      stops = d.stops ∙ ap (λ (bs : List ℕ). bad_escape (read + place) bs) begins
          ∙ bad_escape-escape (drop (read + 1) now) n (read + place) e ∙ ap (λ (bs : List ℕ). bad_escape (n + suc (read + place)) bs) behind
          ∙ ap (λ p. bad_escape p (drop (read + (1 + n)) old)) next;
    }

pub decoding_ends : (place read written : ℕ) (old now : List ℕ) → Decoding place read written old now → length now ≤ read → (bad_escape place old ≡ None) × (take written now ≡ decoded old)
decoding_ends place read written old now d h =
    let same = d.same_length in
    let none : drop read old ≡ [] = drop_all read old (omega arith) in (
      d.stops ∙ ap (λ (bs : List ℕ). bad_escape (read + place) bs) none,
      sym (d.text ∙ ap (λ (bs : List ℕ). take written now ++ decoded bs) none ∙ append-nil (take written now)),
    )
