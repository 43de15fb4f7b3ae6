-- For each kind of values: the split after a value is unique, and the value has one tree.
use Rattle.std.specs.Prelude.{◌≡◌, ℕ, ℤ, ◌<◌, ◌⊎◌, true, false, List, [], ◌∷◌, ◌++◌, codes}
use Rattle.std.specs.Char.{IsAsciiDigit}
use Rattle.std.proofs.Common.{refl, sym, ap, ◌∙◌, subst, inl, inr, arith, append_assoc}
use Rattle.std.proofs.lemmas.List.{append_cancel_left}
use Rattle.sj_base.specs.Tree.{Tree, null, boolean, integer, decimal, string, list, object, Items, Members}
use Rattle.sj_base.specs.Number.{SpellsInteger, IsDecimal}
use Rattle.sj_base.specs.Spelling.{SpellsString, SpellsValue, SpellsItems, SpellsMembers}
use Rattle.sj_base.proofs.Fronts.{cons_parts, NotFirst, same_front}
use Rattle.sj_base.proofs.NumberBytes.{IsInNumber, integer_parts, same_integer, no_decimal, integer_bytes, decimal_bytes, number_first}
use Rattle.sj_base.proofs.Bodies.{same_string}
use Rattle.sj_base.proofs.Cuts.{kind_of, kind_at, kind_of-digit, Cuts, Opens}

-- the class of a value's first byte
kind : Tree → ℕ
kind (string s) = 1
kind (list ts) = 2
kind (object ms) = 3
kind (boolean b) = 4
kind null = 5
kind (integer n) = 7
kind (decimal literal) = 7

-- A number begins with a minus or a digit.
number_kind : (f r : List ℕ) → (b : ℕ) × (others : List ℕ) × (f ≡ b ∷ others) × ((b ≡ 0x2d) ⊎ IsAsciiDigit b) → kind_at (f ++ r) ≡ 7
number_kind f r p = ap (λ (ys : List ℕ). kind_at (ys ++ r)) p.2 ∙ first p.0 p.3
  where
    first : (b : ℕ) → (b ≡ 0x2d) ⊎ IsAsciiDigit b → kind_of b ≡ 7
    first b (inl e) = ap kind_of e
    first b (inr d) = kind_of-digit b d

-- the first byte of a value
value_kind : (t : Tree) (f r : List ℕ) → SpellsValue t f → kind_at (f ++ r) ≡ kind t
unfolding kind
value_kind null f r h = ap (λ (ys : List ℕ). kind_at (ys ++ r)) h
value_kind (boolean true) f r h = ap (λ (ys : List ℕ). kind_at (ys ++ r)) h
value_kind (boolean false) f r h = ap (λ (ys : List ℕ). kind_at (ys ++ r)) h
value_kind (integer n) f r h = number_kind f r (number_first h.1.negative h.1.whole [] f h.1.is_whole (integer_parts n f h.1))
value_kind (decimal literal) f r h = number_kind f r (number_first h.1.negative h.1.whole (h.1.fraction ++ h.1.exponent) f h.1.is_whole (h.0 ∙ h.1.parts))
value_kind (string s) f r h = ap (λ (ys : List ℕ). kind_at (ys ++ r)) h.parts
value_kind (list ts) f r h = ap (λ (ys : List ℕ). kind_at (ys ++ r)) h.1
value_kind (object ms) f r h = ap (λ (ys : List ℕ). kind_at (ys ++ r)) h.1

-- The class of a value is neither 0 nor 8.
kind_bounds : (t : Tree) → (0 < kind t) × (kind t < 8)
unfolding kind
kind_bounds null = (omega arith, omega arith)
kind_bounds (boolean b) = (omega arith, omega arith)
kind_bounds (integer n) = (omega arith, omega arith)
kind_bounds (decimal literal) = (omega arith, omega arith)
kind_bounds (string s) = (omega arith, omega arith)
kind_bounds (list ts) = (omega arith, omega arith)
kind_bounds (object ms) = (omega arith, omega arith)

-- A value begins with a byte of its class.
pub value_opens : Opens SpellsValue
value_opens t f r h = let b = kind_bounds t in let e = value_kind t f r h in (omega arith, omega arith)

-- so does a string
pub string_opens : Opens SpellsString
string_opens s f r h = value_opens (string s) f r h

-- Two values that begin the same text have the same class.
same_kind : (s t : Tree) (f g r q : List ℕ) → SpellsValue s f → SpellsValue t g → f ++ r ≡ g ++ q → kind s ≡ kind t
same_kind s t f g r q h k e = sym (value_kind s f r h) ∙ ap kind_at e ∙ value_kind t g q k

-- The split after a literal name is unique.
same_word : (word f g r q : List ℕ) → f ≡ word → g ≡ word → f ++ r ≡ g ++ q → r ≡ q
same_word word f g r q h k e = append_cancel_left word r q (ap (λ (ys : List ℕ). ys ++ r) (sym h) ∙ e ∙ ap (λ (ys : List ℕ). ys ++ q) k)

-- a text between two brackets, and the text behind the first bracket
same_between : (left right : ℕ) (f g i j r q : List ℕ) → f ≡ left ∷ (i ++ right ∷ []) → g ≡ left ∷ (j ++ right ∷ []) → f ++ r ≡ g ++ q → i ++ right ∷ r ≡ j ++ right ∷ q
same_between left right f g i j r q h k e = sym (append_assoc i (right ∷ []) r) ∙ (cons_parts (ap (λ (ys : List ℕ). ys ++ r) (sym h) ∙ e ∙ ap (λ (ys : List ℕ). ys ++ q) k)).1 ∙ append_assoc j (right ∷ []) q

-- a value before a byte that is in no number
abbrev pub CutsValue : Tree → Type 0
CutsValue t = Cuts SpellsValue (NotFirst IsInNumber) t

-- `null`. The last clause, here and below, is for a tree of another kind.
pub null_cuts : CutsValue null
unfolding kind
null_cuts null f g r q h k m n e = (refl, same_word (codes "null") f g r q h k e)
null_cuts t f g r q h k m n e = let d = same_kind null t f g r q h k e in absurd (omega arith)

-- `true` and `false` differ.
no_word : (f g r q : List ℕ) → f ≡ codes "true" → g ≡ codes "false" → f ++ r ≡ g ++ q → ⊥
no_word f g r q h k e = let t = (cons_parts (ap (λ (ys : List ℕ). ys ++ r) (sym h) ∙ e ∙ ap (λ (ys : List ℕ). ys ++ q) k)).0 in omega arith

-- `true`
pub true_cuts : CutsValue (boolean true)
unfolding kind
true_cuts (boolean true) f g r q h k m n e = (refl, same_word (codes "true") f g r q h k e)
true_cuts (boolean false) f g r q h k m n e = absurd (no_word f g r q h k e)
true_cuts t f g r q h k m n e = let d = same_kind (boolean true) t f g r q h k e in absurd (omega arith)

-- `false`
pub false_cuts : CutsValue (boolean false)
unfolding kind
false_cuts (boolean false) f g r q h k m n e = (refl, same_word (codes "false") f g r q h k e)
false_cuts (boolean true) f g r q h k m n e = absurd (no_word g f q r k h (sym e))
false_cuts t f g r q h k m n e = let d = same_kind (boolean false) t f g r q h k e in absurd (omega arith)

-- An integer: two numbers that begin the same text have the same bytes.
pub integer_cuts : (z : ℤ) → CutsValue (integer z)
unfolding kind
integer_cuts z (integer y) f g r q h k m n e =
    let p = same_front IsInNumber f g r q (integer_bytes z f h.1) (integer_bytes y g k.1) m n e in
    (ap integer (same_integer z y g (subst (λ (ys : List ℕ). SpellsInteger z ys) p.0 h.1) k.1), p.1)
integer_cuts z (decimal literal) f g r q h k m n e =
    let is : IsDecimal g = subst IsDecimal (sym k.0) k.1 in
    let p = same_front IsInNumber f g r q (integer_bytes z f h.1) (decimal_bytes g is) m n e in
    absurd (no_decimal z g h.0 (subst (λ (ys : List ℕ). SpellsInteger z ys) p.0 h.1) is)
integer_cuts z t f g r q h k m n e = let d = same_kind (integer z) t f g r q h k e in absurd (omega arith)

-- a decimal literal
pub decimal_cuts : (literal : List ℕ) → CutsValue (decimal literal)
unfolding kind
decimal_cuts l (decimal literal) f g r q h k m n e =
    let p = same_front IsInNumber f g r q (decimal_bytes f (subst IsDecimal (sym h.0) h.1)) (decimal_bytes g (subst IsDecimal (sym k.0) k.1)) m n e in
    (ap decimal (sym h.0 ∙ p.0 ∙ k.0), p.1)
decimal_cuts l (integer y) f g r q h k m n e =
    let is : IsDecimal f = subst IsDecimal (sym h.0) h.1 in
    let p = same_front IsInNumber g f q r (integer_bytes y g k.1) (decimal_bytes f is) n m (sym e) in
    absurd (no_decimal y f k.0 (subst (λ (ys : List ℕ). SpellsInteger y ys) p.0 k.1) is)
decimal_cuts l t f g r q h k m n e = let d = same_kind (decimal l) t f g r q h k e in absurd (omega arith)

-- a string
pub string_cuts : (s : List ℕ) → CutsValue (string s)
unfolding kind
string_cuts s (string t) f g r q h k m n e = let p = same_string s t f g r q h k e in (ap string p.0, p.1)
string_cuts s t f g r q h k m n e = let d = same_kind (string s) t f g r q h k e in absurd (omega arith)

-- keys
pub key_cuts : (s : List ℕ) → Cuts SpellsString (NotFirst IsInNumber) s
key_cuts s t f g r q h k m n e = same_string s t f g r q h k e

-- the text with this byte before it
abbrev pub Before : ℕ → List ℕ → Type 0
Before b bs = (others : List ℕ) × (bs ≡ b ∷ others)

-- a list, if the split after its items is unique
pub list_cuts : (ts : Items) → Cuts SpellsItems (Before 0x5d) ts → CutsValue (list ts)
unfolding kind
list_cuts ss cuts (list ts) f g r q h k m n e =
    let p = cuts ts h.0 k.0 (0x5d ∷ r) (0x5d ∷ q) h.2 k.2 (r, refl) (q, refl) (same_between 0x5b 0x5d f g h.0 k.0 r q h.1 k.1 e) in
    (ap list p.0, (cons_parts p.1).1)
list_cuts ss cuts t f g r q h k m n e = let d = same_kind (list ss) t f g r q h k e in absurd (omega arith)

-- an object, likewise
pub object_cuts : (ms : Members) → Cuts SpellsMembers (Before 0x7d) ms → CutsValue (object ms)
unfolding kind
object_cuts ss cuts (object ts) f g r q h k m n e =
    let p = cuts ts h.0 k.0 (0x7d ∷ r) (0x7d ∷ q) h.2 k.2 (r, refl) (q, refl) (same_between 0x7b 0x7d f g h.0 k.0 r q h.1 k.1 e) in
    (ap object p.0, (cons_parts p.1).1)
object_cuts ss cuts t f g r q h k m n e = let d = same_kind (object ss) t f g r q h k e in absurd (omega arith)
