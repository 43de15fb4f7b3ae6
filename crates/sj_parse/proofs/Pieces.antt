-- A walk over whitespace, an operator, a string or a word, outside strings.
use Rattle.std.proofs.Common.{◌≡◌, ℕ, suc, ◌<◌, ◌≤◌, ◌⊎◌, Bool, true, false, ◌&&◌, ◌||◌, List, [], ◌∷◌, ◌++◌, refl, sym, ap, ap₂, ◌∙◌, inl, inr, arith}
use Rattle.std.specs.Prelude.{◌==◌, if◌then◌else◌}
use Rattle.std.specs.List.{AllByRecursion, list_all}
use Rattle.std.proofs.lemmas.Bool.{eqb-true, and_right, le-ltb, or_cases, or_parts, and_parts, not-true, false≢true}
use Rattle.sj_base.specs.Spelling.{IsSpace, AreSpaces}
use Rattle.sj_scan.specs.Positions.{is_whitespace, is_operator}
use Rattle.sj_parse.specs.Token.{Token, word}
use Rattle.sj_parse.specs.inside.WordBytes.{is_word_byte, is_inner_from, is_inner_body}
use Rattle.sj_parse.proofs.Bodies.{body_from}
use Rattle.sj_parse.proofs.Walk.{Walk, walk}

-- outside strings, where a token may begin
abbrev pub clean : ℕ → List ℕ → Walk
clean n bs = walk false false true n bs

abbrev pub token : ℕ → ℕ → List ℕ → Token
token n b text = record { place = n; byte = b; text = text }

abbrev pub with_front : Token → Walk → Walk
with_front t w = record { tokens = t ∷ w.tokens; bad = w.bad }

-- the place behind those bytes
abbrev pub past : ℕ → List ℕ → ℕ
past n [] = n
past n (b ∷ bs) = past (suc n) bs

-- ---- whitespace

pub IsSpace-from_test : (b : ℕ) → is_whitespace b ≡ true → IsSpace b
IsSpace-from_test b h = elim (or_cases _ (b == 0x0d) h) [
  | inl h₁ ↦ elim (or_cases _ (b == 0x0a) h₁) [
    | inl h₂ ↦ elim (or_cases (b == 0x20) (b == 0x09) h₂) [ inl e ↦ inl (eqb-true b 0x20 e) | inr e ↦ inr (inl (eqb-true b 0x09 e)) ]
    | inr e ↦ inr (inr (inl (eqb-true b 0x0a e)))
  ]
  | inr e ↦ inr (inr (inr (eqb-true b 0x0d e)))
]

pub space_low : (b : ℕ) → IsSpace b → b < 128
space_low b (inl e) = omega arith
space_low b (inr (inl e)) = omega arith
space_low b (inr (inr (inl e))) = omega arith
space_low b (inr (inr (inr e))) = omega arith

pub space_step : (s : Bool) (n b : ℕ) (bs : List ℕ) → IsSpace b → walk false false s n (b ∷ bs) ≡ clean (suc n) bs
space_step s n b bs (inl e) = rw e refl
space_step s n b bs (inr (inl e)) = rw e refl
space_step s n b bs (inr (inr (inl e))) = rw e refl
space_step s n b bs (inr (inr (inr e))) = rw e refl

pub clean-spaces : (spaces : List ℕ) (n : ℕ) (bs : List ℕ) → AreSpaces spaces → clean n (spaces ++ bs) ≡ clean (past n spaces) bs
clean-spaces [] n bs h = refl
clean-spaces (b ∷ spaces) n bs h = space_step true n b (spaces ++ bs) h.0 ∙ clean-spaces spaces (suc n) bs h.1

-- ---- operators

abbrev IsOperator : ℕ → Type 0
IsOperator b = (b ≡ 0x7b) ⊎ ((b ≡ 0x7d) ⊎ ((b ≡ 0x5b) ⊎ ((b ≡ 0x5d) ⊎ ((b ≡ 0x3a) ⊎ (b ≡ 0x2c)))))

IsOperator-from_test : (b : ℕ) → is_operator b ≡ true → IsOperator b
IsOperator-from_test b h = elim (or_cases _ (b == 0x2c) h) [
  | inl h₁ ↦ elim (or_cases _ (b == 0x3a) h₁) [
    | inl h₂ ↦ elim (or_cases _ (b == 0x5d) h₂) [
      | inl h₃ ↦ elim (or_cases _ (b == 0x5b) h₃) [
        | inl h₄ ↦ elim (or_cases (b == 0x7b) (b == 0x7d) h₄) [ inl e ↦ inl (eqb-true b 0x7b e) | inr e ↦ inr (inl (eqb-true b 0x7d e)) ]
        | inr e ↦ inr (inr (inl (eqb-true b 0x5b e)))
      ]
      | inr e ↦ inr (inr (inr (inl (eqb-true b 0x5d e))))
    ]
    | inr e ↦ inr (inr (inr (inr (inl (eqb-true b 0x3a e)))))
  ]
  | inr e ↦ inr (inr (inr (inr (inr (eqb-true b 0x2c e)))))
]

pub operator_low : (b : ℕ) → is_operator b ≡ true → b < 128
operator_low b h = at (IsOperator-from_test b h)
  where
    at : IsOperator b → b < 128
    at (inl e) = omega arith
    at (inr (inl e)) = omega arith
    at (inr (inr (inl e))) = omega arith
    at (inr (inr (inr (inl e)))) = omega arith
    at (inr (inr (inr (inr (inl e))))) = omega arith
    at (inr (inr (inr (inr (inr e))))) = omega arith

operator_at : (s : Bool) (n b : ℕ) (bs : List ℕ) → IsOperator b → walk false false s n (b ∷ bs) ≡ with_front (token n b (b ∷ [])) (clean (suc n) bs)
operator_at s n b bs (inl e) = rw e refl
operator_at s n b bs (inr (inl e)) = rw e refl
operator_at s n b bs (inr (inr (inl e))) = rw e refl
operator_at s n b bs (inr (inr (inr (inl e)))) = rw e refl
operator_at s n b bs (inr (inr (inr (inr (inl e))))) = rw e refl
operator_at s n b bs (inr (inr (inr (inr (inr e))))) = rw e refl

pub operator_step : (s : Bool) (n b : ℕ) (bs : List ℕ) → is_operator b ≡ true → walk false false s n (b ∷ bs) ≡ with_front (token n b (b ∷ [])) (clean (suc n) bs)
operator_step s n b bs h = operator_at s n b bs (IsOperator-from_test b h)

-- ---- strings

abbrev pub IsVisible : List ℕ → Type 0
IsVisible bs = AllByRecursion (λ b. 0x20 ≤ b) bs

-- behind an opening quote: the walk is at the closing one
record Closes (e : Bool) (body rest : List ℕ) : Type 0 where
  walks : (s : Bool) (n : ℕ) → walk e true s n (body ++ 0x22 ∷ rest) ≡ clean (suc (past n body)) rest
  text : body_from e (body ++ 0x22 ∷ rest) ≡ body

quote_free : (q x : Bool) → (if q then false else x) ≡ true → (q ≡ false) × (x ≡ true)
quote_free true x h = absurd (false≢true h)
quote_free false x h = (refl, h)

pub and_true : (b : Bool) → (b && true) ≡ b
and_true true = refl
and_true false = refl

closes : (e : Bool) (body rest : List ℕ) → is_inner_from e body ≡ true → IsVisible body → Closes e body rest
closes true [] rest h v = absurd (false≢true h)
closes false [] rest h v = record { walks = λ s n. refl; text = refl }
closes true (b ∷ bs) rest h v =
    let k = closes false bs rest h v.1 in
    let low = le-ltb b 0x20 v.0 in
    record { walks = λ s n. rw low (k.walks _ (suc n)); text = rw (and_right (b == 0x22) false refl, and_right (b == 0x5c) false refl) (ap (λ ys. b ∷ ys) k.text) }
closes false (b ∷ bs) rest h v =
    let p = quote_free (b == 0x22) (is_inner_from (b == 0x5c) bs) h in
    let k = closes (b == 0x5c) bs rest p.1 v.1 in
    let low = le-ltb b 0x20 v.0 in
    let other = p.0 in
    record { walks = λ s n. rw (other, low) (k.walks _ (suc n)); text = rw (other, and_true (b == 0x5c)) (ap (λ ys. b ∷ ys) k.text) }

pub string_step : (s : Bool) (n : ℕ) (body rest : List ℕ) → is_inner_body body ≡ true → IsVisible body → walk false false s n (0x22 ∷ (body ++ 0x22 ∷ rest)) ≡ with_front (token n 0x22 body) (clean (suc (past (suc n) body)) rest)
string_step s n body rest h v =
    let k = closes false body rest h v in
    ap₂ (λ (text : List ℕ) (w : Walk). with_front (token n 0x22 text) w) k.text (k.walks _ (suc n))

-- ---- words

-- Nothing, whitespace or an operator comes first.
abbrev pub Ends : List ℕ → Type 0
Ends [] = Unit {0}
Ends (b ∷ bs) = (is_whitespace b || is_operator b) ≡ true

Ends-walk : (s : Bool) (n : ℕ) (rest : List ℕ) → Ends rest → walk false false s n rest ≡ clean n rest
Ends-walk s n [] h = refl
Ends-walk s n (b ∷ bs) h = elim (or_cases (is_whitespace b) (is_operator b) h) [
  | inl e ↦ space_step s n b bs (IsSpace-from_test b e) ∙ sym (space_step true n b bs (IsSpace-from_test b e))
  | inr e ↦ operator_step s n b bs e ∙ sym (operator_step true n b bs e)
]

pub record WordByte (b : ℕ) : Type 0 where
  pub space : is_whitespace b ≡ false
  pub operator : is_operator b ≡ false
  pub quote : (b == 0x22) ≡ false
  pub backslash : (b == 0x5c) ≡ false

pub word_byte : (b : ℕ) → is_word_byte b ≡ true → WordByte b
word_byte b h =
    let p = or_parts (is_whitespace b || is_operator b || b == 0x22) (b == 0x5c) (not-true _ h) in
    let q = or_parts (is_whitespace b || is_operator b) (b == 0x22) p.0 in
    let r = or_parts (is_whitespace b) (is_operator b) q.0 in
    record { space = r.0; operator = r.1; quote = q.1; backslash = p.1 }

record Passes (s : Bool) (w rest : List ℕ) : Type 0 where
  walks : (n : ℕ) → walk false false s n (w ++ rest) ≡ clean (past n w) rest
  text : word (w ++ rest) ≡ w

Ends-word : (rest : List ℕ) → Ends rest → word rest ≡ []
Ends-word [] h = refl
Ends-word (b ∷ bs) h = rw h refl

passes : (w rest : List ℕ) → list_all is_word_byte w ≡ true → Ends rest → Passes false w rest
passes [] rest h ends = record { walks = λ n. Ends-walk false n rest ends; text = Ends-word rest ends }
passes (b ∷ w) rest h ends =
    let p = and_parts (is_word_byte b) (list_all is_word_byte w) h in
    let k = passes w rest p.1 ends in
    let is = word_byte b p.0 in
    let space = is.space in
    let operator = is.operator in
    let quote = is.quote in
    let backslash = is.backslash in
    record { walks = λ n. rw (space, operator, quote, backslash) (k.walks (suc n)); text = rw (space, operator) (ap (λ ys. b ∷ ys) k.text) }

pub word_step : (n b : ℕ) (w rest : List ℕ) → list_all is_word_byte (b ∷ w) ≡ true → Ends rest → clean n (b ∷ (w ++ rest)) ≡ with_front (token n b (b ∷ w)) (clean (past (suc n) w) rest)
word_step n b w rest h ends =
    let p = and_parts (is_word_byte b) (list_all is_word_byte w) h in
    let k = passes w rest p.1 ends in
    let is = word_byte b p.0 in
    let space = is.space in
    let operator = is.operator in
    let quote = is.quote in
    let backslash = is.backslash in
    rw (space, operator, quote, backslash) (ap₂ (λ (text : List ℕ) (x : Walk). with_front (token n b (b ∷ text)) x) k.text (k.walks (suc n)))
