-- Fronts of a list whose elements have a property: where the front ends is unique.
use Rattle.std.specs.Prelude.{◌≡◌, ℕ, List, [], ◌∷◌, ◌++◌, get_or, drop}
use Rattle.std.specs.List.{AllByRecursion}
use Rattle.std.proofs.Common.{refl, sym, ap, ◌∙◌, subst}

-- Equal lists have equal heads and equal tails.
pub cons_parts : {b c : ℕ} {xs ys : List ℕ} → b ∷ xs ≡ c ∷ ys → (b ≡ c) × (xs ≡ ys)
cons_parts e = (ap (λ zs. get_or zs 0 0) e, ap (λ zs. drop 1 zs) e)

-- A property of all elements of two lists is one of all elements of the lists together.
pub AllByRecursion-append : (P : ℕ → Type 0) (xs ys : List ℕ) → AllByRecursion P xs → AllByRecursion P ys → AllByRecursion P (xs ++ ys)
AllByRecursion-append P [] ys h k = k
AllByRecursion-append P (x ∷ xs) ys h k = (h.0, AllByRecursion-append P xs ys h.1 k)

-- the converse
pub AllByRecursion-parts : (P : ℕ → Type 0) (xs ys : List ℕ) → AllByRecursion P (xs ++ ys) → AllByRecursion P xs × AllByRecursion P ys
AllByRecursion-parts P [] ys h = (tt, h)
AllByRecursion-parts P (x ∷ xs) ys h = let k = AllByRecursion-parts P xs ys h.1 in ((h.0, k.0), k.1)

-- a weaker property
pub AllByRecursion-weaker : (P Q : ℕ → Type 0) → ((x : ℕ) → P x → Q x) → (xs : List ℕ) → AllByRecursion P xs → AllByRecursion Q xs
AllByRecursion-weaker P Q f [] h = tt
AllByRecursion-weaker P Q f (x ∷ xs) h = (f x h.0, AllByRecursion-weaker P Q f xs h.1)

-- The first element, if there is one, doesn't have the property.
abbrev pub NotFirst : (ℕ → Type 0) → List ℕ → Type 0
NotFirst P [] = Unit {0}
NotFirst P (b ∷ bs) = P b → ⊥

-- The split between the elements with the property and the rest is unique.
pub same_front : (P : ℕ → Type 0) (f g r q : List ℕ) → AllByRecursion P f → AllByRecursion P g → NotFirst P r → NotFirst P q → f ++ r ≡ g ++ q → (f ≡ g) × (r ≡ q)
same_front P [] [] r q h k m n e = (refl, e)
same_front P [] (c ∷ g) r q h k m n e = absurd ((subst (λ (ys : List ℕ). NotFirst P ys) e m) k.0)
same_front P (b ∷ f) [] r q h k m n e = absurd ((subst (λ (ys : List ℕ). NotFirst P ys) (sym e) n) h.0)
same_front P (b ∷ f) (c ∷ g) r q h k m n e =
    let p = cons_parts e in
    let rest = same_front P f g r q h.1 k.1 m n p.1 in
    (ap (λ x. x ∷ f) p.0 ∙ ap (λ ys. c ∷ ys) rest.0, rest.1)

-- A list whose elements all have the property, and whose first one doesn't, is empty.
pub all_none : (P : ℕ → Type 0) (xs : List ℕ) → AllByRecursion P xs → NotFirst P xs → xs ≡ []
all_none P [] h n = refl
all_none P (x ∷ xs) h n = absurd (n h.0)
