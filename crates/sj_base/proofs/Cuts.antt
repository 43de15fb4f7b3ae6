-- Parts of a text: the split between a part and the rest is unique, and the part has one meaning.
use Rattle.std.specs.Prelude.{◌≡◌, ℕ, ◌<◌, ◌≤◌, cond, ◌==◌, nat_lt, nat_le, ◌&&◌, List, [], ◌∷◌, ◌++◌}
use Rattle.std.specs.Char.{IsAsciiDigit}
use Rattle.std.proofs.Common.{refl, sym, ap, ap₂, ◌∙◌, inl, inr, arith, append_assoc}
use Rattle.std.proofs.lemmas.Bool.{le-leb, lt-ltb, ne_eqb}
use Rattle.sj_base.specs.Spelling.{IsSpace, AreSpaces, Padded, Pairs, Then, CommaThen}
use Rattle.sj_base.proofs.Fronts.{cons_parts, NotFirst, same_front}
use Rattle.sj_base.proofs.NumberBytes.{IsInNumber, number_low}

-- The class of a first byte: 1 to 7 for a kind of values, 8 for a byte that may follow a value, 0 for any other.
abbrev pub kind_of : ℕ → ℕ
kind_of b =
    cond (b == 0x22) 1
    (cond (b == 0x5b) 2
    (cond (b == 0x7b) 3
    (cond (b == 0x74) 4
    (cond (b == 0x66) 4
    (cond (b == 0x6e) 5
    (cond (b == 0x2c) 8
    (cond (b == 0x3a) 8
    (cond (b == 0x5d) 8
    (cond (b == 0x7d) 8
    (cond (nat_le 0x2d b && nat_lt b 0x3a) 7 0))))))))))

-- the class of a list's first byte
abbrev pub kind_at : List ℕ → ℕ
kind_at [] = 0
kind_at (b ∷ bs) = kind_of b

-- A digit begins a number.
pub kind_of-digit : (b : ℕ) → IsAsciiDigit b → kind_of b ≡ 7
kind_of-digit b d =
    let low : 48 ≤ b = d.0 in
    let high : b ≤ 57 = d.1 in
    rw (ne_eqb b 0x22 (λ e. omega arith), ne_eqb b 0x5b (λ e. omega arith), ne_eqb b 0x7b (λ e. omega arith), ne_eqb b 0x74 (λ e. omega arith), ne_eqb b 0x66 (λ e. omega arith), ne_eqb b 0x6e (λ e. omega arith), ne_eqb b 0x2c (λ e. omega arith), ne_eqb b 0x3a (λ e. omega arith), ne_eqb b 0x5d (λ e. omega arith), ne_eqb b 0x7d (λ e. omega arith), le-leb 0x2d b (omega arith), lt-ltb b 0x3a (omega arith)) refl

-- Whitespace begins no value.
space_kind : (b : ℕ) → IsSpace b → kind_of b ≡ 0
space_kind b (inl e) = rw e refl
space_kind b (inr (inl e)) = rw e refl
space_kind b (inr (inr (inl e))) = rw e refl
space_kind b (inr (inr (inr e))) = rw e refl

-- A text whose first byte has a class doesn't begin with whitespace.
pub no_space : (bs : List ℕ) → 0 < kind_at bs → NotFirst IsSpace bs
no_space [] h = tt
no_space (b ∷ bs) h = λ s. let e = space_kind b s in omega arith

-- the bytes that may follow a value and the whitespace around it
pub record Stops (bs : List ℕ) : Type 0 where
  pub no_space : NotFirst IsSpace bs
  pub no_number : NotFirst IsInNumber bs

-- A comma, a colon and a closing bracket are in no number.
stop_no_number : (b : ℕ) → kind_of b ≡ 8 → IsInNumber b → ⊥
stop_no_number b k (inl d) = let e = kind_of-digit b d in omega arith
stop_no_number b k (inr (inl e)) = let seven = ap kind_of e in omega arith
stop_no_number b k (inr (inr (inl e))) = let none = ap kind_of e in omega arith
stop_no_number b k (inr (inr (inr (inl e)))) = let none = ap kind_of e in omega arith
stop_no_number b k (inr (inr (inr (inr (inl e))))) = let none = ap kind_of e in omega arith
stop_no_number b k (inr (inr (inr (inr (inr e))))) = let none = ap kind_of e in omega arith

-- So they end a value.
pub stops_at : (b : ℕ) (bs : List ℕ) → kind_of b ≡ 8 → Stops (b ∷ bs)
stops_at b bs k = record { no_space = no_space (b ∷ bs) (omega arith); no_number = stop_no_number b k }

-- Whitespace has no byte above a space.
pub space_low : (b : ℕ) → IsSpace b → b ≤ 0x20
space_low b (inl e) = omega arith
space_low b (inr (inl e)) = omega arith
space_low b (inr (inr (inl e))) = omega arith
space_low b (inr (inr (inr e))) = omega arith

-- A byte that is in no number isn't in one behind whitespace either.
spaces_no_number : (spaces bs : List ℕ) → AreSpaces spaces → NotFirst IsInNumber bs → NotFirst IsInNumber (spaces ++ bs)
spaces_no_number [] bs h n = n
spaces_no_number (b ∷ spaces) bs h n = λ i. let low = space_low b h.0 in let high = number_low b i in omega arith

-- The part has the meaning x, and the split between it and the rest is unique.
abbrev pub Cuts : {A : Type 0} → (A → List ℕ → Type 0) → (List ℕ → Type 0) → A → Type 0
Cuts {A} E End x = (y : A) (f g r q : List ℕ) → E x f → E y g → End r → End q → f ++ r ≡ g ++ q → (x ≡ y) × (r ≡ q)

-- a text that begins with a value
abbrev pub Opens : {A : Type 0} → (A → List ℕ → Type 0) → Type 0
Opens {A} E = (y : A) (f r : List ℕ) → E y f → (0 < kind_at (f ++ r)) × (kind_at (f ++ r) < 8)

-- the three parts of a padded text
pub padded_open : (P : List ℕ → Type 0) (f r : List ℕ) (p : Padded P f) → f ++ r ≡ p.before ++ (p.inner ++ (p.after ++ r))
padded_open P f r p = ap (λ (ys : List ℕ). ys ++ r) p.parts ∙ append_assoc p.before (p.inner ++ p.after) r ∙ ap (λ (ys : List ℕ). p.before ++ ys) (append_assoc p.inner p.after r)

-- The split after a padded part is unique.
pub padded_cuts : {A : Type 0} (E : A → List ℕ → Type 0) (x : A) → Opens E → Cuts E (NotFirst IsInNumber) x → Cuts (λ y. Padded (E y)) Stops x
padded_cuts E x opens cuts y f g r q p k m n e =
    let inner = same_front IsSpace p.before k.before (p.inner ++ (p.after ++ r)) (k.inner ++ (k.after ++ q)) p.spaces_before k.spaces_before
    (no_space (p.inner ++ (p.after ++ r)) (opens x p.inner (p.after ++ r) p.holds).0)
    (no_space (k.inner ++ (k.after ++ q)) (opens y k.inner (k.after ++ q) k.holds).0)
    (sym (padded_open (E x) f r p) ∙ e ∙ padded_open (E y) g q k) in
    let c = cuts y p.inner k.inner (p.after ++ r) (k.after ++ q) p.holds k.holds (spaces_no_number p.after r p.spaces_after m.no_number) (spaces_no_number k.after q k.spaces_after n.no_number) inner.1 in
    (c.0, (same_front IsSpace p.after k.after r q p.spaces_after k.spaces_after m.no_space n.no_space c.1).1)

-- a key, a colon and a value
pub pairs_cuts : {A B : Type 0} (K : A → List ℕ → Type 0) (E : B → List ℕ → Type 0) (k : A) (x : B) → Opens K → Opens E → Cuts K (NotFirst IsInNumber) k → Cuts E (NotFirst IsInNumber) x → Cuts {A = A × B} (λ p. Pairs (K p.0) (E p.1)) Stops (k, x)
pairs_cuts K E k x opens_key opens key_cuts cuts y f g r q h l m n e =
    let left = ap (λ (ys : List ℕ). ys ++ r) h.2 ∙ append_assoc h.0 (0x3a ∷ h.1) r in
    let right = ap (λ (ys : List ℕ). ys ++ q) l.2 ∙ append_assoc l.0 (0x3a ∷ l.1) q in
    let first = padded_cuts K k opens_key key_cuts y.0 h.0 l.0 (0x3a ∷ (h.1 ++ r)) (0x3a ∷ (l.1 ++ q)) h.3 l.3 (stops_at 0x3a (h.1 ++ r) refl) (stops_at 0x3a (l.1 ++ q) refl) (sym left ∙ e ∙ right) in
    let second = padded_cuts E x opens cuts y.1 h.1 l.1 r q h.4 l.4 m n (cons_parts first.1).1 in
    (ap₂ (λ a b. (a, b)) first.0 second.0, second.1)

-- a first part and the rest
pub then_cuts : {A B : Type 0} (E : A → List ℕ → Type 0) (M : B → List ℕ → Type 0) (End : List ℕ → Type 0) (x : A) (xs : B) → ((ys : B) (f r : List ℕ) → M ys f → End r → Stops (f ++ r)) → Cuts E Stops x → Cuts M End xs → Cuts {A = A × B} (λ p. Then (E p.0) (M p.1)) End (x, xs)
then_cuts E M End x xs stops cuts more_cuts y f g r q h k m n e =
    let left = ap (λ (ys : List ℕ). ys ++ r) h.2 ∙ append_assoc h.0 h.1 r in
    let right = ap (λ (ys : List ℕ). ys ++ q) k.2 ∙ append_assoc k.0 k.1 q in
    let first = cuts y.0 h.0 k.0 (h.1 ++ r) (k.1 ++ q) h.3 k.3 (stops xs h.1 r h.4 m) (stops y.1 k.1 q k.4 n) (sym left ∙ e ∙ right) in
    let second = more_cuts y.1 h.1 k.1 r q h.4 k.4 m n first.1 in
    (ap₂ (λ a b. (a, b)) first.0 second.0, second.1)

-- the same behind a comma
pub comma_cuts : {A B : Type 0} (E : A → List ℕ → Type 0) (M : B → List ℕ → Type 0) (End : List ℕ → Type 0) (x : A) (xs : B) → ((ys : B) (f r : List ℕ) → M ys f → End r → Stops (f ++ r)) → Cuts E Stops x → Cuts M End xs → Cuts {A = A × B} (λ p. CommaThen (E p.0) (M p.1)) End (x, xs)
comma_cuts E M End x xs stops cuts more_cuts y f g r q h k m n e =
    let left = ap (λ (ys : List ℕ). ys ++ r) h.2 in
    let right = ap (λ (ys : List ℕ). ys ++ q) k.2 in
    then_cuts E M End x xs stops cuts more_cuts y (h.0 ++ h.1) (k.0 ++ k.1) r q (h.0, h.1, refl, h.3, h.4) (k.0, k.1, refl, k.3, k.4) m n (cons_parts (sym left ∙ e ∙ right)).1

-- A text of P begins, behind whitespace, with a value.
abbrev pub Begins : (List ℕ → Type 0) → Type 0
Begins P = (f r : List ℕ) → P f → (before rest : List ℕ) × AreSpaces before × (f ++ r ≡ before ++ rest) × (0 < kind_at rest) × (kind_at rest < 8)

-- a value with whitespace around it
pub padded_begins : {A : Type 0} (E : A → List ℕ → Type 0) (y : A) → Opens E → Begins (Padded (E y))
padded_begins E y opens f r p =
    let o = opens y p.inner (p.after ++ r) p.holds in
    (p.before, p.inner ++ (p.after ++ r), p.spaces_before, padded_open (E y) f r p, o.0, o.1)

-- a key with its value
pub pairs_begin : {A B : Type 0} (K : A → List ℕ → Type 0) (E : B → List ℕ → Type 0) (k : A) (x : B) → Opens K → Begins (Pairs (K k) (E x))
pairs_begin K E k x opens f r h =
    let p = padded_begins K k opens h.0 ((0x3a ∷ h.1) ++ r) h.3 in
    (p.0, p.1, p.2, ap (λ (ys : List ℕ). ys ++ r) h.2 ∙ append_assoc h.0 (0x3a ∷ h.1) r ∙ p.3, p.4, p.5)

-- Whitespace before a closing bracket has no first element.
pub no_first : (P Q : List ℕ → Type 0) (f g r q : List ℕ) → Begins P → AreSpaces f → kind_at r ≡ 8 → Then P Q g → f ++ r ≡ g ++ q → ⊥
no_first P Q f g r q begins spaces k h e =
    let p = begins h.0 (h.1 ++ q) h.3 in
    let low = p.4 in
    let high = p.5 in
    let whole = e ∙ ap (λ (ys : List ℕ). ys ++ q) h.2 ∙ append_assoc h.0 h.1 q ∙ p.3 in
    let same = ap kind_at (same_front IsSpace f p.0 r p.1 spaces p.2 (no_space r (omega arith)) (no_space p.1 p.4) whole).1 in
    omega arith
