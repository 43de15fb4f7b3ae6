-- The first token of a text, and what is left of the text behind it.
use Rattle.std.proofs.Common.{◌≡◌, ℕ, zero, suc, ◌+◌, ◌<◌, Bool, true, false, ◌||◌, List, [], ◌∷◌, ◌++◌, length, get_or, None, append_assoc, refl, sym, ap, ◌∙◌, subst, inl, inr, arith}
use Rattle.std.specs.Prelude.{◌==◌, nat_lt, IsUtf8}
use Rattle.std.specs.List.{list_all}
use Rattle.std.proofs.Math.Seq.{get_or-append_seam, take-append_seam, drop-append-add}
use Rattle.std.proofs.lemmas.Bool.{cases_Bool, eqb-true, ltb-false, or_parts, or_cases, or_right, false≢true}
use Rattle.std.proofs.lemmas.List.{length-append}
use Rattle.std.proofs.lemmas.Str.{IsUtf8-nil, IsUtf8-append, IsUtf8-from_ascii, IsUtf8-take, IsUtf8-drop, IsCharBoundary-before_ascii, IsCharBoundary-after_ascii}
use Rattle.sj_scan.specs.Positions.{is_whitespace, is_operator}
use Rattle.sj_base.specs.Spelling.{IsSpace, AreSpaces, SpellsString}
use Rattle.sj_parse.specs.Token.{Token, word}
use Rattle.sj_parse.specs.Escapes.{bad_escape}
use Rattle.sj_parse.specs.inside.Decoded.{decoded}
use Rattle.sj_parse.specs.inside.WordBytes.{is_word_byte, is_inner_from}
use Rattle.sj_parse.proofs.StringLemmas.{Means-decoded}
use Rattle.sj_parse.proofs.Walk.{walk, token_from}
use Rattle.sj_parse.proofs.Pieces.{clean, token, with_front, past, IsVisible, Ends, IsSpace-from_test, space_low, space_step, operator_low, operator_step, string_step, word_step}

-- ---- UTF-8

-- an ASCII byte cuts a text
pub utf8_cut : (xs : List ℕ) (b : ℕ) (ys : List ℕ) → b < 128 → IsUtf8 (xs ++ b ∷ ys) → IsUtf8 xs × IsUtf8 ys
utf8_cut xs b ys low h =
    let bs = xs ++ b ∷ ys in
    let long : length bs ≡ length xs + suc (length ys) = length-append xs (b ∷ ys) in
    let at : get_or bs (length xs) 0 < 128 = subst (λ c. c < 128) (sym (get_or-append_seam xs b ys 0)) low in
    let first = IsUtf8-take bs (length xs) h (IsCharBoundary-before_ascii bs (length xs) (omega arith) at) in
    let rest = IsUtf8-drop bs (length xs + 1) h (IsCharBoundary-after_ascii bs (length xs) h (omega arith) at) in
    (subst (λ (zs : List ℕ). IsUtf8 zs) (take-append_seam xs (b ∷ ys)) first, subst (λ (zs : List ℕ). IsUtf8 zs) (drop-append-add xs (b ∷ ys) 1) rest)

-- so does the end of a word
utf8_rest : (xs ys : List ℕ) → Ends ys → IsUtf8 (xs ++ ys) → IsUtf8 ys
utf8_rest xs [] ends h = IsUtf8-nil
utf8_rest xs (b ∷ ys) ends h =
    let low : b < 128 = elim (or_cases (is_whitespace b) (is_operator b) ends) [ inl e ↦ space_low b (IsSpace-from_test b e) | inr e ↦ operator_low b e ] in
    IsUtf8-append (b ∷ []) ys (IsUtf8-from_ascii (b ∷ []) (at low)) (utf8_cut xs b ys low h).1
  where
    at : b < 128 → (i : ℕ) → get_or (b ∷ []) i 0 < 128
    at low zero = low
    at low (suc i) = omega arith

-- ---- what a token leaves

-- each string is closed and has no control character, from a place on
pub record Good (n : ℕ) (bs : List ℕ) : Type 0 where
  pub good : (clean n bs).bad ≡ false
  pub utf8 : IsUtf8 bs

-- whitespace and then a piece that P holds of, before these tokens
pub record Takes (P : List ℕ → Type 0) (bs : List ℕ) (ts : List Token) : Type 0 where
  pub spaces : List ℕ
  pub piece : List ℕ
  pub rest : List ℕ
  pub end : ℕ
  pub parts : bs ≡ spaces ++ (piece ++ rest)
  pub are_spaces : AreSpaces spaces
  pub holds : P piece
  pub good : Good end rest
  pub left : ts ≡ (clean end rest).tokens

taken : (P : List ℕ → Type 0) (n : ℕ) (bs piece rest : List ℕ) (end : ℕ) (s t : Token) (ts : List Token) → bs ≡ piece ++ rest → clean n bs ≡ with_front s (clean end rest) → Good n bs → IsUtf8 rest → (clean n bs).tokens ≡ t ∷ ts → P piece → Takes P bs ts
taken P n bs piece rest end s t ts parts walks good utf8 found holds =
    let whole : s ∷ (clean end rest).tokens ≡ t ∷ ts = sym (ap (λ w. w.tokens) walks) ∙ found in
    record {
      spaces = [];
      piece = piece;
      rest = rest;
      end = end;
      parts = parts;
      are_spaces = tt;
      holds = holds;
      good = record { good = sym (ap (λ w. w.bad) walks) ∙ good.good; utf8 = utf8 };
      left = cc;
    }

behind_space : (P : List ℕ → Type 0) (b : ℕ) (bs : List ℕ) (ts : List Token) → IsSpace b → Takes P bs ts → Takes P (b ∷ bs) ts
behind_space P b bs ts space k = record {
  spaces = b ∷ k.spaces;
  piece = k.piece;
  rest = k.rest;
  end = k.end;
  parts = ap (λ ys. b ∷ ys) k.parts;
  are_spaces = (space, k.are_spaces);
  holds = k.holds;
  good = k.good;
  left = k.left;
}

good_behind_space : (n b : ℕ) (bs : List ℕ) → IsSpace b → Good n (b ∷ bs) → Good (suc n) bs
good_behind_space n b bs space good = record {
  good = sym (ap (λ w. w.bad) (space_step true n b bs space)) ∙ good.good;
  utf8 = (utf8_cut [] b bs (space_low b space) good.utf8).1;
}

-- what holds where no whitespace stands in front
abbrev AtByte : (List ℕ → Type 0) → Token → List Token → Type 0
AtByte P t ts = (n b : ℕ) (bs : List ℕ) → is_whitespace b ≡ false → Good n (b ∷ bs) → (clean n (b ∷ bs)).tokens ≡ t ∷ ts → Takes P (b ∷ bs) ts

first_token : (P : List ℕ → Type 0) (t : Token) (ts : List Token) → AtByte P t ts → (bs : List ℕ) (n : ℕ) → Good n bs → (clean n bs).tokens ≡ t ∷ ts → Takes P bs ts
first_token P t ts at [] n good found = absurd cc
first_token P t ts at (b ∷ bs) n good found = elim (cases_Bool (is_whitespace b)) [
  | inl e ↦
      let space = IsSpace-from_test b e in
      behind_space P b bs ts space (first_token P t ts at bs (suc n) (good_behind_space n b bs space good) (sym (ap (λ w. w.tokens) (space_step true n b bs space)) ∙ found))
  | inr e ↦ at n b bs e good found
]

-- the token that begins there
head_token : (n b : ℕ) (bs : List ℕ) (t : Token) (ts : List Token) → is_whitespace b ≡ false → (clean n (b ∷ bs)).tokens ≡ t ∷ ts → t ≡ token_from n b bs
head_token n b bs t ts h found =
    let any = or_right (is_operator b || b == 0x22) true refl in
    let begun = rw (h, any) at found in
    cc

-- ---- operators

pub operator_first : (t : Token) (ts : List Token) → is_operator t.byte ≡ true → (bs : List ℕ) (n : ℕ) → Good n bs → (clean n bs).tokens ≡ t ∷ ts → Takes (λ piece. piece ≡ t.byte ∷ []) bs ts
operator_first t ts h = first_token (λ piece. piece ≡ t.byte ∷ []) t ts at
  where
    at : AtByte (λ piece. piece ≡ t.byte ∷ []) t ts
    at n b bs space good found =
        let same : t.byte ≡ b = ap (λ x. x.byte) (head_token n b bs t ts space found) in
        let is : is_operator b ≡ true = ap is_operator (sym same) ∙ h in
        taken (λ piece. piece ≡ t.byte ∷ []) n (b ∷ bs) (b ∷ []) bs (suc n) (token n b (b ∷ [])) t ts refl (operator_step true n b bs is) good (utf8_cut [] b bs (operator_low b is) good.utf8).1 found (ap (λ x. x ∷ []) (sym same))

-- ---- strings

-- the body up to the closing quote
record Closed (e : Bool) (bs : List ℕ) : Type 0 where
  body : List ℕ
  rest : List ℕ
  parts : bs ≡ body ++ 0x22 ∷ rest
  inner : is_inner_from e body ≡ true
  visible : IsVisible body

closed : (bs : List ℕ) (e s : Bool) (n : ℕ) → (walk e true s n bs).bad ≡ false → Closed e bs
closed [] e s n h = absurd (false≢true (sym h))
closed (b ∷ bs) true s n h =
    let p = or_parts (nat_lt b 0x20) (walk false true (is_whitespace b || is_operator b || false) (suc n) bs).bad h in
    let k = closed bs false (is_whitespace b || is_operator b || false) (suc n) p.1 in
    record { body = b ∷ k.body; rest = k.rest; parts = ap (λ ys. b ∷ ys) k.parts; inner = k.inner; visible = (ltb-false b 0x20 p.0, k.visible) }
closed (b ∷ bs) false s n h = elim (cases_Bool (b == 0x22)) [
  | inl e ↦ record { body = []; rest = bs; parts = ap (λ x. x ∷ bs) (eqb-true b 0x22 e); inner = refl; visible = tt }
  | inr e ↦
      let inside = rw e at h in
      let p = or_parts (nat_lt b 0x20) (walk (b == 0x5c) true (is_whitespace b || is_operator b || false) (suc n) bs).bad inside in
      let k = closed bs (b == 0x5c) (is_whitespace b || is_operator b || false) (suc n) p.1 in
      record { body = b ∷ k.body; rest = k.rest; parts = ap (λ ys. b ∷ ys) k.parts; inner = rw e k.inner; visible = (ltb-false b 0x20 p.0, k.visible) }
]

string_at : (t : Token) (ts : List Token) (n : ℕ) (bs : List ℕ) → bad_escape (suc t.place) t.text ≡ None → Good n (0x22 ∷ bs) → (clean n (0x22 ∷ bs)).tokens ≡ t ∷ ts → Takes (SpellsString (decoded t.text)) (0x22 ∷ bs) ts
string_at t ts n bs none good found =
    let c = closed bs false (false || false || true) (suc n) good.good in
    let step = string_step true n c.body c.rest c.inner c.visible in
    let walks : clean n (0x22 ∷ bs) ≡ with_front (token n 0x22 c.body) (clean (suc (past (suc n) c.body)) c.rest) = ap (λ ys. clean n (0x22 ∷ ys)) c.parts ∙ step in
    let whole : token n 0x22 c.body ∷ (clean (suc (past (suc n) c.body)) c.rest).tokens ≡ t ∷ ts = sym (ap (λ w. w.tokens) walks) ∙ found in
    let same : token n 0x22 c.body ≡ t = cc in
    let text : c.body ≡ t.text = ap (λ x. x.text) same in
    let inside : IsUtf8 (c.body ++ 0x22 ∷ c.rest) = subst (λ (ys : List ℕ). IsUtf8 ys) c.parts (utf8_cut [] 0x22 bs (omega arith) good.utf8).1 in
    let cut = utf8_cut c.body 0x22 c.rest (omega arith) inside in
    let means = Means-decoded c.body cut.0 c.visible c.inner (suc t.place) (ap (bad_escape (suc t.place)) text ∙ none) in
    taken (SpellsString (decoded t.text)) n (0x22 ∷ bs) (0x22 ∷ (c.body ++ 0x22 ∷ [])) c.rest (suc (past (suc n) c.body)) (token n 0x22 c.body) t ts
    (ap (λ ys. 0x22 ∷ ys) (c.parts ∙ sym (append_assoc c.body (0x22 ∷ []) c.rest))) walks good cut.1 found
    (subst (λ (ys : List ℕ). SpellsString (decoded ys) (0x22 ∷ (c.body ++ 0x22 ∷ []))) text (record { body = c.body; parts = refl; means = means }))

pub string_first : (t : Token) (ts : List Token) → t.byte ≡ 0x22 → bad_escape (suc t.place) t.text ≡ None → (bs : List ℕ) (n : ℕ) → Good n bs → (clean n bs).tokens ≡ t ∷ ts → Takes (SpellsString (decoded t.text)) bs ts
string_first t ts quote none = first_token (SpellsString (decoded t.text)) t ts at
  where
    at : AtByte (SpellsString (decoded t.text)) t ts
    at n b bs space good found =
        let same : b ≡ 0x22 = sym (ap (λ x. x.byte) (head_token n b bs t ts space found)) ∙ quote in
        subst (λ x. Takes (SpellsString (decoded t.text)) (x ∷ bs) ts) (sym same) (string_at t ts n bs none (subst (λ x. Good n (x ∷ bs)) same good) (ap (λ x. (clean n (x ∷ bs)).tokens) (sym same) ∙ found))

-- ---- words

word_split : (bs : List ℕ) → (rest : List ℕ) × (bs ≡ word bs ++ rest) × Ends rest
word_split [] = ([], refl, tt)
word_split (b ∷ bs) = elim (cases_Bool (is_whitespace b || is_operator b)) [
  | inl e ↦ (b ∷ bs, rw e refl, e)
  | inr e ↦ let k = word_split bs in (k.0, rw e (ap (λ ys. b ∷ ys) k.1), k.2)
]

pub word_first : (t : Token) (ts : List Token) → is_operator t.byte ≡ false → (t.byte == 0x22) ≡ false → list_all is_word_byte t.text ≡ true → (bs : List ℕ) (n : ℕ) → Good n bs → (clean n bs).tokens ≡ t ∷ ts → Takes (λ piece. piece ≡ t.text) bs ts
word_first t ts no_operator no_quote bytes = first_token (λ piece. piece ≡ t.text) t ts at
  where
    at : AtByte (λ piece. piece ≡ t.text) t ts
    at n b bs space good found =
        let head = head_token n b bs t ts space found in
        let same : t.byte ≡ b = ap (λ x. x.byte) head in
        let operator : is_operator b ≡ false = ap is_operator (sym same) ∙ no_operator in
        let quote : (b == 0x22) ≡ false = ap (λ x. x == 0x22) (sym same) ∙ no_quote in
        let text : t.text ≡ b ∷ word bs = ap (λ x. x.text) head ∙ rw (operator, quote, space) refl in
        let k = word_split bs in
        let walks : clean n (b ∷ bs) ≡ with_front (token n b (b ∷ word bs)) (clean (past (suc n) (word bs)) k.0) = ap (λ ys. clean n (b ∷ ys)) k.1 ∙ word_step n b (word bs) k.0 (ap (λ ys. list_all is_word_byte ys) (sym text) ∙ bytes) k.2 in
        let utf8 = utf8_rest (b ∷ word bs) k.0 k.2 (subst (λ (ys : List ℕ). IsUtf8 (b ∷ ys)) k.1 good.utf8) in
        taken (λ piece. piece ≡ t.text) n (b ∷ bs) (b ∷ word bs) k.0 (past (suc n) (word bs)) (token n b (b ∷ word bs)) t ts (ap (λ ys. b ∷ ys) k.1) walks good utf8 found (sym text)
