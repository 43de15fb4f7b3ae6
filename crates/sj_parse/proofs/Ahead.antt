-- What is left of a text behind its first tokens.
use Rattle.std.proofs.Common.{◌≡◌, ℕ, zero, suc, ◌+◌, ◌<◌, ◌≤◌, ◌⊎◌, Bool, true, false, not, ◌&&◌, ◌||◌, List, [], ◌∷◌, ◌++◌, length, take, drop, refl, sym, ap, ◌∙◌, subst, inl, inr, arith, add-one}
use Rattle.std.specs.Prelude.{◌==◌, if◌then◌else◌, slice_index, IsUtf8}
use Rattle.std.specs.List.{list_all}
use Rattle.std.proofs.Math.Seq.{drop-cons}
use Rattle.std.proofs.lemmas.Bool.{cases_Bool, eqb-true, and_right, and_parts, not-true, false≢true}
use Rattle.sj_scan.specs.Positions.{is_whitespace, is_operator}
use Rattle.sj_parse.specs.Token.{Token, tokens, word}
use Rattle.sj_base.specs.NumberTests.{is_number}
use Rattle.sj_parse.specs.inside.WordBytes.{is_word_byte}
use Rattle.sj_parse.specs.inside.Step.{string_body, reach}
use Rattle.sj_parse.proofs.Bodies.{body_from, body-body_from}
use Rattle.sj_parse.proofs.FirstToken.{utf8_cut}
use Rattle.sj_parse.proofs.NumberLemmas.{is_word-number}
use Rattle.sj_parse.proofs.Pieces.{and_true, word_byte}
use Rattle.sj_parse.proofs.Walk.{walk, tokens-walk, escapes, separates, begins, inside_behind, is_quote, token_from}

-- These tokens stand from that place on, or later.
pub record Ahead (bytes : List ℕ) (from : ℕ) (ts : List Token) : Type 0 where
  pub escaped : Bool
  pub inside : Bool
  pub separated : Bool
  pub place : ℕ
  pub apart : (escaped && separated) ≡ false
  pub beyond : from ≤ place
  pub are : ts ≡ (walk escaped inside separated place (drop place bytes)).tokens

pub ahead-start : (bytes : List ℕ) → Ahead bytes 0 (tokens bytes)
ahead-start bytes = record { escaped = false; inside = false; separated = true; place = 0; apart = refl; beyond = omega arith; are = tokens-walk bytes }

-- ---- where the tokens of a walk stand

-- the first token of a walk, by whether it begins at the first byte
first_place : (starts : Bool) (n b : ℕ) (bs : List ℕ) (t : Token) (ts us : List Token) → (us ≡ t ∷ ts → suc n ≤ t.place) → (if starts then token_from n b bs ∷ us else us) ≡ t ∷ ts → n ≤ t.place
first_place true n b bs t ts us later h =
    let same : token_from n b bs ≡ t = cc in
    let there : n ≡ t.place = ap (λ x. x.place) same in
    omega arith
first_place false n b bs t ts us later h = let k = later h in omega arith

walk_place : (e i s : Bool) (n : ℕ) (bs : List ℕ) (t : Token) (ts : List Token) → (walk e i s n bs).tokens ≡ t ∷ ts → n ≤ t.place
walk_place e i s n [] t ts h = absurd cc
walk_place e i s n (b ∷ bs) t ts h =
    first_place (begins e i s b) n b bs t ts (walk (escapes e b) (inside_behind (is_quote e b) i) (separates e b) (suc n) bs).tokens
    (walk_place (escapes e b) (inside_behind (is_quote e b) i) (separates e b) (suc n) bs t ts) h

pub ahead-place : (bytes : List ℕ) (from : ℕ) (t : Token) (ts : List Token) → Ahead bytes from (t ∷ ts) → from ≤ t.place
ahead-place bytes from t ts h =
    let k = walk_place h.escaped h.inside h.separated h.place (drop h.place bytes) t ts (sym h.are) in
    let beyond = h.beyond in
    omega arith

-- ---- behind a token

drop_next : (n : ℕ) (bytes : List ℕ) (b : ℕ) (bs : List ℕ) → b ∷ bs ≡ drop n bytes → bs ≡ drop (suc n) bytes
drop_next zero [] b bs h = absurd cc
drop_next zero (x ∷ xs) b bs h = cc
drop_next (suc n) [] b bs h = absurd cc
drop_next (suc n) (x ∷ xs) b bs h = drop_next n xs b bs h

-- a byte that escapes the next one is a backslash
escapes_apart : (e : Bool) (b : ℕ) → (escapes e b && separates e b) ≡ false
escapes_apart true b = refl
escapes_apart false b = elim (cases_Bool (b == 0x5c)) [
  | inl e ↦ rw (eqb-true b 0x5c e) refl
  | inr e ↦ rw e refl
]

-- a place before
ahead_before : (bytes : List ℕ) (from further : ℕ) (ts : List Token) → from ≤ further → Ahead bytes further ts → Ahead bytes from ts
ahead_before bytes from further ts le h =
    let beyond = h.beyond in
    record { escaped = h.escaped; inside = h.inside; separated = h.separated; place = h.place; apart = h.apart; beyond = omega arith; are = h.are }

ahead_at : (bytes : List ℕ) (e i s : Bool) (n : ℕ) (bs : List ℕ) (ts : List Token) → bs ≡ drop n bytes → (e && s) ≡ false → ts ≡ (walk e i s n bs).tokens → Ahead bytes n ts
ahead_at bytes e i s n bs ts is apart are =
    record { escaped = e; inside = i; separated = s; place = n; apart = apart; beyond = omega arith; are = are ∙ ap (λ (ys : List ℕ). (walk e i s n ys).tokens) is }

-- inside a string no token begins before the next real quote
string_ahead : (bytes : List ℕ) (e s : Bool) (n : ℕ) (bs : List ℕ) (ts : List Token) → bs ≡ drop n bytes → (e && s) ≡ false → ts ≡ (walk e true s n bs).tokens → Ahead bytes (n + length (body_from e bs)) ts
string_ahead bytes e s n [] ts is apart are = ahead_before bytes (n + 0) n ts (omega arith) (ahead_at bytes e true s n [] ts is apart are)
string_ahead bytes true s n (b ∷ bs) ts is apart are =
    let k = string_ahead bytes false (separates true b) (suc n) bs ts (drop_next n bytes b bs is) refl are in
    let more = ahead_before bytes (n + suc (length (body_from false bs))) (suc n + length (body_from false bs)) ts (omega arith) k in
    rw (and_right (b == 0x22) false refl, and_right (b == 0x5c) false refl) more
string_ahead bytes false s n (b ∷ bs) ts is apart are = elim (cases_Bool (b == 0x22)) [
  | inl q ↦ rw q (ahead_before bytes (n + 0) n ts (omega arith) (ahead_at bytes false true s n (b ∷ bs) ts is apart are))
  | inr q ↦
      let inside : ts ≡ (walk (b == 0x5c) true (separates false b) (suc n) bs).tokens = are ∙ ap (λ x. (walk (b == 0x5c) (inside_behind x true) (separates false b) (suc n) bs).tokens) q in
      let k = string_ahead bytes (b == 0x5c) (separates false b) (suc n) bs ts (drop_next n bytes b bs is) (escapes_apart false b) inside in
      let more = ahead_before bytes (n + suc (length (body_from (b == 0x5c) bs))) (suc n + length (body_from (b == 0x5c) bs)) ts (omega arith) k in
      rw (q, and_true (b == 0x5c)) more
]

-- no token begins inside a word of word bytes
word_ahead : (bytes : List ℕ) (n : ℕ) (bs : List ℕ) (ts : List Token) → bs ≡ drop n bytes → list_all is_word_byte (word bs) ≡ true → ts ≡ (walk false false false n bs).tokens → Ahead bytes (n + length (word bs)) ts
word_ahead bytes n [] ts is all are = ahead_before bytes (n + 0) n ts (omega arith) (ahead_at bytes false false false n [] ts is refl are)
word_ahead bytes n (b ∷ bs) ts is all are = elim (cases_Bool (is_whitespace b || is_operator b)) [
  | inl e ↦ rw e (ahead_before bytes (n + 0) n ts (omega arith) (ahead_at bytes false false false n (b ∷ bs) ts is refl are))
  | inr e ↦
      let whole : list_all is_word_byte (b ∷ word bs) ≡ true = sym (ap (λ x. list_all is_word_byte (if x then [] else b ∷ word bs)) e) ∙ all in
      let p = and_parts (is_word_byte b) (list_all is_word_byte (word bs)) whole in
      let byte = word_byte b p.0 in
      let space = byte.space in
      let operator = byte.operator in
      let quote = byte.quote in
      let backslash = byte.backslash in
      let step : (walk false false false n (b ∷ bs)).tokens ≡ (walk false false false (suc n) bs).tokens = rw (space, operator, quote, backslash) refl in
      let k = word_ahead bytes (suc n) bs ts (drop_next n bytes b bs is) p.1 (are ∙ step) in
      rw e (ahead_before bytes (n + suc (length (word bs))) (suc n + length (word bs)) ts (omega arith) k)
]

-- the tokens behind a token's first byte
abbrev behind : Bool → Bool → Bool → ℕ → ℕ → List ℕ → List Token
behind e i s n b bs = (walk (escapes e b) (inside_behind (is_quote e b) i) (separates e b) (suc n) bs).tokens

quote_ahead : (bytes : List ℕ) (e s : Bool) (n : ℕ) (bs : List ℕ) → bs ≡ drop (suc n) bytes → (e && s) ≡ false → begins e false s 0x22 ≡ true → Ahead bytes (n + reach (token_from n 0x22 bs)) (behind e false s n 0x22 bs)
quote_ahead bytes true true n bs is apart h = absurd (false≢true (sym apart))
quote_ahead bytes true false n bs is apart h = absurd (false≢true h)
quote_ahead bytes false s n bs is apart h =
    ahead_before bytes (n + suc (length (body_from false bs))) (suc n + length (body_from false bs)) (walk false true true (suc n) bs).tokens (omega arith)
    (string_ahead bytes false true (suc n) bs (walk false true true (suc n) bs).tokens is refl refl)

-- a token that is a number ends where its word does
number_ahead : (bytes : List ℕ) (e s : Bool) (n b : ℕ) (bs : List ℕ) → bs ≡ drop (suc n) bytes → is_whitespace b ≡ false → is_operator b ≡ false → list_all is_word_byte (b ∷ word bs) ≡ true → Ahead bytes (n + suc (length (word bs))) (behind e false s n b bs)
number_ahead bytes e s n b bs is space operator all =
    let p = and_parts (is_word_byte b) (list_all is_word_byte (word bs)) all in
    let byte = word_byte b p.0 in
    let quote = no_quote e byte.quote in
    let separate : separates e b ≡ false = rw (space, operator, quote) refl in
    let step : behind e false s n b bs ≡ (walk false false false (suc n) bs).tokens =
    ap (λ x. (walk x (inside_behind (is_quote e b) false) (separates e b) (suc n) bs).tokens) (no_escape e byte.backslash)
    ∙ ap (λ x. (walk false (inside_behind x false) (separates e b) (suc n) bs).tokens) quote
    ∙ ap (λ x. (walk false false x (suc n) bs).tokens) separate in
    ahead_before bytes (n + suc (length (word bs))) (suc n + length (word bs)) (behind e false s n b bs) (omega arith) (word_ahead bytes (suc n) bs (behind e false s n b bs) is p.1 step)
  where
    no_quote : (x : Bool) → (b == 0x22) ≡ false → is_quote x b ≡ false
    no_quote true h = refl
    no_quote false h = h

    no_escape : (x : Bool) → (b == 0x5c) ≡ false → escapes x b ≡ false
    no_escape true h = refl
    no_escape false h = h

reach_number : (t : Token) → (t.byte == 0x22) ≡ false → is_number t.text ≡ true → reach t ≡ length t.text
reach_number t quote number = ap (λ x. if x then suc (length t.text) else (if is_number t.text then length t.text else 0)) quote ∙ ap (λ x. if x then length t.text else 0) number

reach_other : (t : Token) → (t.byte == 0x22) ≡ false → is_number t.text ≡ false → reach t ≡ 0
reach_other t quote none = ap (λ x. if x then suc (length t.text) else (if is_number t.text then length t.text else 0)) quote ∙ ap (λ x. if x then length t.text else 0) none

-- a token reaches no further than the next one
token_ahead : (bytes : List ℕ) (e i s : Bool) (n b : ℕ) (bs : List ℕ) → bs ≡ drop (suc n) bytes → (e && s) ≡ false → begins e i s b ≡ true → Ahead bytes (n + reach (token_from n b bs)) (behind e i s n b bs)
token_ahead bytes e true s n b bs is apart h = absurd (false≢true h)
token_ahead bytes e false s n b bs is apart h = elim (cases_Bool (b == 0x22)) [
  | inl q ↦
      let same : 0x22 ≡ b = sym (eqb-true b 0x22 q) in
      subst (λ x. Ahead bytes (n + reach (token_from n x bs)) (behind e false s n x bs)) same (quote_ahead bytes e s n bs is apart (ap (begins e false s) same ∙ h))
  | inr q ↦ elim (cases_Bool (is_number (token_from n b bs).text)) [
    | inl number ↦
        let p = is_word-number (token_from n b bs).text number in
        elim (cases_Bool (is_operator b)) [
          | inl o ↦
              let alone : list_all is_word_byte (b ∷ []) ≡ true = sym (ap (λ x. list_all is_word_byte (if x then b ∷ [] else (if b == 0x22 then body_from false bs else word (b ∷ bs)))) o) ∙ p.0 in
              let byte = word_byte b (and_parts (is_word_byte b) true alone).0 in
              absurd (false≢true (sym byte.operator ∙ o))
          | inr o ↦
              let space = not-true (is_whitespace b) (and_parts (not (is_whitespace b)) (is_operator b || is_quote e b || s) h).0 in
              let text : (token_from n b bs).text ≡ b ∷ word bs = rw (o, q, space) refl in
              let far : reach (token_from n b bs) ≡ suc (length (word bs)) = reach_number (token_from n b bs) q number ∙ ap (λ (ys : List ℕ). length ys) text in
              subst (λ k. Ahead bytes (n + k) (behind e false s n b bs)) (sym far) (number_ahead bytes e s n b bs is space o (ap (list_all is_word_byte) (sym text) ∙ p.0))
        ]
    | inr none ↦
        let far : reach (token_from n b bs) ≡ 0 = reach_other (token_from n b bs) q none in
        subst (λ k. Ahead bytes (n + k) (behind e false s n b bs)) (sym far)
        (ahead_before bytes (n + 0) (suc n) (behind e false s n b bs) (omega arith) (ahead_at bytes (escapes e b) (inside_behind (is_quote e b) false) (separates e b) (suc n) bs (behind e false s n b bs) is (escapes_apart e b) refl))
  ]
]

next_if : (bytes : List ℕ) (starts : Bool) (u : Token) (us : List Token) (t : Token) (ts : List Token) → (starts ≡ true → Ahead bytes (u.place + reach u) us) → (us ≡ t ∷ ts → Ahead bytes (t.place + reach t) ts) → (if starts then u ∷ us else us) ≡ t ∷ ts → Ahead bytes (t.place + reach t) ts
next_if bytes true u us t ts begun later h =
    let first : u ≡ t = cc in
    let others : us ≡ ts = cc in
    subst (λ x. Ahead bytes (x.place + reach x) ts) first (subst (λ xs. Ahead bytes (u.place + reach u) xs) others (begun refl))
next_if bytes false u us t ts begun later h = later h

walk_next : (bytes : List ℕ) (e i s : Bool) (n : ℕ) (bs : List ℕ) (t : Token) (ts : List Token) → bs ≡ drop n bytes → (e && s) ≡ false → (walk e i s n bs).tokens ≡ t ∷ ts → Ahead bytes (t.place + reach t) ts
walk_next bytes e i s n [] t ts is apart h = absurd cc
walk_next bytes e i s n (b ∷ bs) t ts is apart h =
    let rest = drop_next n bytes b bs is in
    next_if bytes (begins e i s b) (token_from n b bs) (behind e i s n b bs) t ts
    (token_ahead bytes e i s n b bs rest apart)
    (walk_next bytes (escapes e b) (inside_behind (is_quote e b) i) (separates e b) (suc n) bs t ts rest (escapes_apart e b)) h

pub ahead-next : (bytes : List ℕ) (from : ℕ) (t : Token) (ts : List Token) → Ahead bytes from (t ∷ ts) → Ahead bytes (t.place + reach t) ts
ahead-next bytes from t ts h = walk_next bytes h.escaped h.inside h.separated h.place (drop h.place bytes) t ts refl h.apart (sym h.are)

-- ---- UTF-8

-- what follows a body: nothing, or a quote
body_split : (e : Bool) (bs : List ℕ) → (bs ≡ body_from e bs) ⊎ ((rest : List ℕ) × (bs ≡ body_from e bs ++ 0x22 ∷ rest))
body_split e [] = inl refl
body_split e (b ∷ bs) = elim (cases_Bool (b == 0x22 && not e)) [
  | inl q ↦ inr (bs, rw q (ap (λ x. x ∷ bs) (eqb-true b 0x22 (and_parts (b == 0x22) (not e) q).0)))
  | inr q ↦ elim (body_split (b == 0x5c && not e) bs) [
    | inl k ↦ inl (rw q (ap (λ ys. b ∷ ys) k))
    | inr k ↦ inr (k.0, rw q (ap (λ ys. b ∷ ys) k.1))
  ]
]

utf8_front : (bs : List ℕ) → IsUtf8 bs → IsUtf8 (body_from false bs)
utf8_front bs h = elim (body_split false bs) [
  | inl k ↦ subst (λ (ys : List ℕ). IsUtf8 ys) k h
  | inr k ↦ (utf8_cut (body_from false bs) 0x22 k.0 (omega arith) (subst (λ (ys : List ℕ). IsUtf8 ys) k.1 h)).0
]

split_at : (n : ℕ) (bytes : List ℕ) → bytes ≡ take n bytes ++ drop n bytes
split_at zero [] = refl
split_at zero (x ∷ xs) = refl
split_at (suc n) [] = refl
split_at (suc n) (x ∷ xs) = ap (λ ys. x ∷ ys) (split_at n xs)

pub utf8_body : (bytes : List ℕ) (place : ℕ) → IsUtf8 bytes → place < length bytes → slice_index bytes place ≡ 0x22 → IsUtf8 (string_body (drop (place + 1) bytes))
utf8_body bytes place utf8 within quote =
    let rest = drop (place + 1) bytes in
    let parts : bytes ≡ take place bytes ++ 0x22 ∷ rest = split_at place bytes ∙ ap (λ (ys : List ℕ). take place bytes ++ ys) (drop-cons bytes place 0 within ∙ ap (λ (n : ℕ). slice_index bytes place ∷ drop n bytes) (sym (add-one place)) ∙ ap (λ x. x ∷ rest) quote) in
    let cut = utf8_cut (take place bytes) 0x22 rest (omega arith) (subst (λ (ys : List ℕ). IsUtf8 ys) parts utf8) in
    subst (λ (ys : List ℕ). IsUtf8 ys) (sym (body-body_from (0x22 ∷ []) rest)) (utf8_front rest cut.1)
