-- Bodies of strings and words, byte by byte.
use Rattle.std.proofs.Common.{◌≡◌, ℕ, zero, suc, ◌+◌, ◌<◌, ◌≤◌, ne_eqb, Bool, true, false, not, ◌&&◌, List, [], ◌∷◌, ◌++◌, length, take, drop, refl, sym, ap, ◌∙◌, arith, append-nil, append_assoc, add-one, take-add, drop-drop, inr, Option, Some, Result, Ok, Err}
use Rattle.std.proofs.lemmas.Bool.{eqb-true}
use Rattle.std.proofs.lemmas.List.{get_or-drop}
use Rattle.sj_parse.specs.declared.descent_fault.DescentKind.{DescentKind}
use Rattle.sj_parse.specs.declared.descent_fault.Stop.{Stop}
use Rattle.sj_parse.specs.Escapes.{stop, escape, past_escape, bad_escape, bad_escape_behind}
use Rattle.std.specs.Prelude.{◌==◌, if◌then◌else◌, slice_index}
use Rattle.std.proofs.Math.Seq.{take-suc, drop-cons, drop-length}
use Rattle.sj_scan.specs.Positions.{is_odd, backslashes, is_real_quote}
use Rattle.sj_scan.proofs.States.{is_odd-run}
use Rattle.sj_parse.specs.Token.{body}
use Rattle.sj_parse.specs.inside.Step.{string_body, IsPlain, StopsAt}

-- the bytes up to a quote that isn't escaped; the flag says whether the first byte is escaped
abbrev pub body_from : Bool → List ℕ → List ℕ
body_from e [] = []
body_from e (b ∷ bs) = if b == 0x22 && not e then [] else b ∷ body_from (b == 0x5c && not e) bs

pub body-body_from : (before bs : List ℕ) → body before bs ≡ body_from (is_odd (backslashes before)) bs
body-body_from before [] = refl
body-body_from before (b ∷ bs) =
    ap (λ (ys : List ℕ). if is_real_quote before b then [] else b ∷ ys)
    (body-body_from (b ∷ before) bs ∙ ap (λ (e : Bool). body_from e bs) (sym (is_odd-run (b == 0x5c) (backslashes before))))

-- one more byte of a body, or its end
pub body-more : (bytes : List ℕ) (i : ℕ) (e : Bool) → i < length bytes → (slice_index bytes i == 0x22 && not e) ≡ false → string_body bytes ≡ take i bytes ++ body_from e (drop i bytes) → string_body bytes ≡ take (i + 1) bytes ++ body_from (slice_index bytes i == 0x5c && not e) (drop (i + 1) bytes)
body-more bytes i e h goes_on so_far =
    let b = slice_index bytes i in
    let next = body_from (b == 0x5c && not e) (drop (suc i) bytes) in
    so_far
    ∙ ap (λ (ys : List ℕ). take i bytes ++ body_from e ys) (drop-cons bytes i 0 h)
    ∙ ap (λ (stop : Bool). take i bytes ++ (if stop then [] else b ∷ next)) goes_on
    ∙ sym (append_assoc (take i bytes) (b ∷ []) next)
    ∙ ap (λ (ys : List ℕ). ys ++ next) (sym (take-suc bytes i 0 h))
    ∙ ap (λ (k : ℕ). take k bytes ++ body_from (b == 0x5c && not e) (drop k bytes)) (sym (add-one i))

pub body-end : (bytes : List ℕ) (i : ℕ) (e : Bool) → i < length bytes → (slice_index bytes i == 0x22 && not e) ≡ true → string_body bytes ≡ take i bytes ++ body_from e (drop i bytes) → take i bytes ≡ string_body bytes
body-end bytes i e h ends so_far =
    let b = slice_index bytes i in
    sym (so_far
    ∙ ap (λ (ys : List ℕ). take i bytes ++ body_from e ys) (drop-cons bytes i 0 h)
    ∙ ap (λ (stop : Bool). take i bytes ++ (if stop then [] else b ∷ body_from (b == 0x5c && not e) (drop (suc i) bytes))) ends
    ∙ append-nil (take i bytes))

pub body-all : (bytes : List ℕ) (i : ℕ) (e : Bool) → i ≡ length bytes → string_body bytes ≡ take i bytes ++ body_from e (drop i bytes) → take i bytes ≡ string_body bytes
body-all bytes i e is so_far =
    sym (so_far ∙ ap (λ (ys : List ℕ). take i bytes ++ body_from e ys) (ap (λ (k : ℕ). drop k bytes) is ∙ drop-length bytes) ∙ append-nil (take i bytes))

-- a body is the front of what stands behind the quote
front_if : (stop : Bool) (b : ℕ) (xs ys : List ℕ) → ((j : ℕ) → j < length xs → slice_index xs j ≡ slice_index ys j) → (i : ℕ) → i < length (if stop then [] else b ∷ xs) → slice_index (if stop then [] else b ∷ xs) i ≡ slice_index (b ∷ ys) i
front_if true b xs ys same i k = absurd (omega arith)
front_if false b xs ys same zero k = refl
front_if false b xs ys same (suc i) k = same i (omega arith)

body-front : (before bs : List ℕ) (j : ℕ) → j < length (body before bs) → slice_index (body before bs) j ≡ slice_index bs j
body-front before [] j h = refl
body-front before (b ∷ bs) j h = front_if (is_real_quote before b) b (body (b ∷ before) bs) bs (body-front (b ∷ before) bs) j h

-- A bad escape is told of at its backslash.
pub record IsBackslash (place : ℕ) (bs : List ℕ) (s : Stop) : Type 0 where
  pub index : ℕ
  pub within : index < length bs
  pub at : s.place ≡ place + index
  pub is : slice_index bs index ≡ 0x5c

further : (place b : ℕ) (bs : List ℕ) (s : Stop) → IsBackslash (suc place) bs s → IsBackslash place (b ∷ bs) s
further place b bs s h =
    let inside = h.within in
    let there = h.at in
    record { index = suc h.index; within = omega arith; at = omega arith; is = h.is }

past_backslash : (r : Result ℕ DescentKind) (place b : ℕ) (bs : List ℕ) (s : Stop) (rest : ℕ → Option Stop) → b ≡ 0x5c → ((n : ℕ) → rest n ≡ Some s → IsBackslash (suc place) bs s) → past_escape r place rest ≡ Some s → IsBackslash place (b ∷ bs) s
past_backslash (Ok n) place b bs s rest is later k = further place b bs s (later n k)
past_backslash (Err kind) place b bs s rest is later k =
    let same : stop kind place ≡ s = cc in
    record { index = 0; within = omega arith; at = let there : place ≡ s.place = ap (λ (q : Stop). q.place) same in omega arith; is = is }

if_backslash : (t : Bool) (b place : ℕ) (bs : List ℕ) (s : Stop) (rest : ℕ → Option Stop) (other : Option Stop) → (b == 0x5c) ≡ t → ((n : ℕ) → rest n ≡ Some s → IsBackslash (suc place) bs s) → (other ≡ Some s → IsBackslash (suc place) bs s) → (if t then past_escape (escape bs) place rest else other) ≡ Some s → IsBackslash place (b ∷ bs) s
if_backslash true b place bs s rest other is later plain k = past_backslash (escape bs) place b bs s rest (eqb-true b 0x5c is) later k
if_backslash false b place bs s rest other is later plain k = further place b bs s (plain k)

bad_escape_behind-backslash : (n place : ℕ) (bs : List ℕ) (s : Stop) → bad_escape_behind n place bs ≡ Some s → IsBackslash place bs s
bad_escape_behind-backslash n place [] s e = absurd cc
bad_escape_behind-backslash (suc n) place (b ∷ bs) s e = further place b bs s (bad_escape_behind-backslash n (suc place) bs s e)
bad_escape_behind-backslash zero place (b ∷ bs) s e =
    if_backslash (b == 0x5c) b place bs s (λ n. bad_escape_behind n (suc place) bs) (bad_escape_behind zero (suc place) bs) refl
    (λ n k. bad_escape_behind-backslash n (suc place) bs s k) (λ k. bad_escape_behind-backslash zero (suc place) bs s k) e

pub string_stop-at : (place skip : ℕ) (bs : List ℕ) (s : Stop) → bad_escape (place + 1) (string_body (drop (skip + 1) bs)) ≡ Some s → StopsAt place skip bs s
string_stop-at place skip bs s bad =
    let h = bad_escape_behind-backslash 0 (place + 1) (string_body (drop (skip + 1) bs)) s bad in
    let there = h.at in
    let same : skip + 1 + h.index ≡ skip + suc h.index = omega arith in
    inr (h.index, omega arith, ap (λ (i : ℕ). slice_index bs i) (sym same) ∙ sym (get_or-drop (skip + 1) bs h.index 0) ∙ sym (body-front (0x22 ∷ []) (drop (skip + 1) bs) h.index h.within) ∙ h.is)

-- a body goes on past bytes that end none and begin no escape
pub body_from-plain : (n : ℕ) (bytes : List ℕ) → n ≤ length bytes → ((k : ℕ) → k < n → IsPlain (slice_index bytes k)) → body_from false bytes ≡ take n bytes ++ body_from false (drop n bytes)
body_from-plain zero bytes h plain = refl
body_from-plain (suc n) [] h plain = absurd (omega (arith, h))
body_from-plain (suc n) (b ∷ bs) h plain =
    let p = plain 0 (omega arith) in
    ap (λ (stop : Bool). if stop && true then [] else b ∷ body_from (b == 0x5c && true) bs) (ne_eqb b 0x22 p.0)
    ∙ ap (λ (e : Bool). b ∷ body_from (e && true) bs) (ne_eqb b 0x5c p.1)
    ∙ ap (λ (ys : List ℕ). b ∷ ys) (body_from-plain n bs (omega arith) (λ k lt. plain (suc k) (omega arith)))

pub body-plain : (n : ℕ) (bytes : List ℕ) → n ≤ length bytes → ((k : ℕ) → k < n → IsPlain (slice_index bytes k)) → string_body bytes ≡ take n bytes ++ string_body (drop n bytes)
body-plain n bytes h plain =
    body-body_from (0x22 ∷ []) bytes ∙ body_from-plain n bytes h plain
    ∙ ap (λ (ys : List ℕ). take n bytes ++ ys) (sym (body-body_from (0x22 ∷ []) (drop n bytes)))

-- as far as the body is known, it goes on past such bytes
pub body-run : (bytes : List ℕ) (i n : ℕ) → n ≤ length (drop i bytes) → ((k : ℕ) → k < n → IsPlain (slice_index (drop i bytes) k)) → string_body bytes ≡ take i bytes ++ body_from false (drop i bytes) → string_body bytes ≡ take (i + n) bytes ++ body_from false (drop (i + n) bytes)
body-run bytes i n h plain so_far =
    so_far
    ∙ ap (λ (ys : List ℕ). take i bytes ++ ys) (body_from-plain n (drop i bytes) h plain)
    ∙ sym (append_assoc (take i bytes) (take n (drop i bytes)) (body_from false (drop n (drop i bytes))))
    ∙ ap (λ (ys : List ℕ). ys ++ body_from false (drop n (drop i bytes))) (sym (take-add i n bytes))
    ∙ ap (λ (ys : List ℕ). take (i + n) bytes ++ body_from false ys) (drop-drop n i bytes)

never : (b : Bool) → (b && false) ≡ false
never true = refl
never false = refl

-- and past a backslash, which escapes the byte behind it
pub body-escaped : (bytes : List ℕ) (i : ℕ) → i < length bytes → slice_index bytes i ≡ 0x5c → string_body bytes ≡ take i bytes ++ body_from false (drop i bytes) → string_body bytes ≡ take (i + 1) bytes ++ body_from true (drop (i + 1) bytes)
body-escaped bytes i h slash so_far =
    body-more bytes i false h (ap (λ (b : ℕ). b == 0x22 && true) slash) so_far
    ∙ ap (λ (b : ℕ). take (i + 1) bytes ++ body_from (b == 0x5c && true) (drop (i + 1) bytes)) slash

pub body-skip : (bytes : List ℕ) (i : ℕ) → i + 1 < length bytes → slice_index bytes i ≡ 0x5c → string_body bytes ≡ take i bytes ++ body_from false (drop i bytes) → string_body bytes ≡ take (i + 2) bytes ++ body_from false (drop (i + 2) bytes)
body-skip bytes i h slash so_far =
    let x = slice_index bytes (i + 1) in
    let two : i + 1 + 1 ≡ i + 2 = omega arith in
    body-more bytes (i + 1) true h (never (x == 0x22)) (body-escaped bytes i (omega (arith, h)) slash so_far)
    ∙ ap (λ (e : Bool). take (i + 1 + 1) bytes ++ body_from e (drop (i + 1 + 1) bytes)) (never (x == 0x5c))
    ∙ ap (λ (k : ℕ). take k bytes ++ body_from false (drop k bytes)) two
