-- Laws of objects and of documents as targets of known keys.
use Rattle.std.specs.Prelude.{◌≡◌, ℕ, List, [], ◌∷◌, Option, Some, None, IsSome, true, false, if◌then◌else◌, option_and_then, bytes_eq}
use Rattle.std.proofs.Common.{rules, refl, sym, ap, subst, ◌∙◌, inl, inr}
use Rattle.std.proofs.lemmas.Bool.{cases_Bool}
use Rattle.std.proofs.lemmas.Slice.Eq.{bytes_eq-Decides}
use Rattle.sj_object.specs.Pairs.{value_at, set_value, put_key}
use Rattle.sj_object.specs.declared.entry.Entry.{Entry}
use Rattle.sj_owned.specs.Views.{members_inside}
use Rattle.sj_owned.specs.declared.value.Value.{Value, Object, the_lemmas}
use Rattle.sj_owned.specs.Lends.{member_set}
use Rattle.sj_keys.specs.Writes.{Puts, PutsInside}

module _ {K D : Type 0} where
  -- the members of an object
  pub members_of_object : (es : List (Entry K (Value K D))) → members_inside (Object es) ≡ Some es
  members_of_object es = search (rules, the_lemmas)

same_text : (k : List ℕ) → bytes_eq k k ≡ true
same_text k = (bytes_eq-Decides k k).1 refl

module _ {K V : Type 0} (text : K → List ℕ) where
  -- a value set at a key that is there is found there, and the values of other keys stay
  pub set_found : (es : List (Entry K V)) (k : List ℕ) (v : V) → IsSome (value_at text es k) → value_at text (set_value text es k v) k ≡ Some v
  set_found [] k v h = absurd (search rules)
  set_found (e ∷ es) k v h =
      elim (cases_Bool (bytes_eq (text e.key) k)) [
        | inl y ↦ rw (y, y) refl
        | inr n ↦ rw (n, n) (set_found es k v (rw n at h))
      ]

  pub set_others : (es : List (Entry K V)) (k l : List ℕ) (v : V) → bytes_eq k l ≡ false → value_at text (set_value text es k v) l ≡ value_at text es l
  set_others [] k l v far = refl
  set_others (e ∷ es) k l v far =
      elim (cases_Bool (bytes_eq (text e.key) k)) [
        | inl y ↦
            let past : bytes_eq (text e.key) l ≡ false = subst (λ (j : List ℕ). bytes_eq j l ≡ false) (sym ((bytes_eq-Decides (text e.key) k).0 y)) far in
            rw (y, past) refl
        | inr n ↦ rw n (ap (λ (r : Option V). if bytes_eq (text e.key) l then Some e.value else r) (set_others es k l v far))
      ]

  -- the same of a value that is put
  put_key_others : (es : List (Entry K V)) (x : K) (l : List ℕ) (v : V) → bytes_eq (text x) l ≡ false → value_at text (put_key text es x v) l ≡ value_at text es l
  put_key_others [] x l v far = rw far refl
  put_key_others (e ∷ es) x l v far =
      elim (cases_Bool (bytes_eq (text e.key) (text x))) [
        | inl y ↦
            let past : bytes_eq (text e.key) l ≡ false = subst (λ (j : List ℕ). bytes_eq j l ≡ false) (sym ((bytes_eq-Decides (text e.key) (text x)).0 y)) far in
            rw (y, past) refl
        | inr n ↦ rw n (ap (λ (r : Option V). if bytes_eq (text e.key) l then Some e.value else r) (put_key_others es x l v far))
      ]

  put_key_found : (es : List (Entry K V)) (x : K) (v : V) → value_at text (put_key text es x v) (text x) ≡ Some v
  put_key_found [] x v = rw (same_text (text x)) refl
  put_key_found (e ∷ es) x v =
      elim (cases_Bool (bytes_eq (text e.key) (text x))) [
        | inl y ↦ rw (y, y) refl
        | inr n ↦ rw (n, n) (put_key_found es x v)
      ]

  pub put_found : (es fs : List (Entry K V)) (k : List ℕ) (v : V) → Puts text es k v fs → value_at text fs k ≡ Some v
  put_found es fs k v p = rw p.2 (subst (λ (j : List ℕ). value_at text (put_key text es p.0 v) j ≡ Some v) p.1 (put_key_found es p.0 v))

  pub put_others : (es fs : List (Entry K V)) (k l : List ℕ) (v : V) → Puts text es k v fs → bytes_eq k l ≡ false → value_at text fs l ≡ value_at text es l
  put_others es fs k l v p far = rw p.2 (put_key_others es p.0 l v (subst (λ (j : List ℕ). bytes_eq j l ≡ false) (sym p.1) far))

-- the same of a target that is written through the object that it is
module _ {T O V : Type 0} (object : T → Option O) (of_object : O → T) (member : T → List ℕ → Option V) (inner : O → List ℕ → Option V)
    (again : (o : O) → object (of_object o) ≡ Some o)
    (through : (t : T) (k : List ℕ) → member t k ≡ option_and_then (λ o. inner o k) (object t)) where
  in_object : (t : T) (k : List ℕ) (o : O) → object t ≡ Some o → member t k ≡ inner o k
  in_object t k o is = through t k ∙ ap (λ (p : Option O). option_and_then (λ q. inner q k) p) is

  in_none : (t : T) (k : List ℕ) → object t ≡ None → member t k ≡ None
  in_none t k is = through t k ∙ ap (λ (p : Option O). option_and_then (λ q. inner q k) p) is

  in_written : (k : List ℕ) (o : O) → member (of_object o) k ≡ inner o k
  in_written k o = in_object (of_object o) k o (again o)

  module _ (set : O → List ℕ → V → O) where
    set_found_in : ((o : O) (k : List ℕ) (v : V) → IsSome (inner o k) → inner (set o k v) k ≡ Some v)
        → (t : T) (k : List ℕ) (v : V) (p : Option O) → object t ≡ p → IsSome (member t k) → member (member_set set of_object t p k v) k ≡ Some v
    set_found_in found t k v (Some o) is h = in_written k (set o k v) ∙ found o k v (subst (λ (m : Option V). IsSome m) (in_object t k o is) h)
    set_found_in found t k v None is h = absurd (let n : IsSome {T = V} None = subst (λ (m : Option V). IsSome m) (in_none t k is) h in search rules)

    set_others_in : ((o : O) (k l : List ℕ) (v : V) → bytes_eq k l ≡ false → inner (set o k v) l ≡ inner o l)
        → (t : T) (k l : List ℕ) (v : V) (p : Option O) → object t ≡ p → bytes_eq k l ≡ false → member (member_set set of_object t p k v) l ≡ member t l
    set_others_in others t k l v (Some o) is far = in_written l (set o k v) ∙ others o k l v far ∙ sym (in_object t l o is)
    set_others_in others t k l v None is far = refl

    pub set_found_inside : ((o : O) (k : List ℕ) (v : V) → IsSome (inner o k) → inner (set o k v) k ≡ Some v)
        → (t : T) (k : List ℕ) (v : V) → IsSome (member t k) → member (member_set set of_object t (object t) k v) k ≡ Some v
    set_found_inside found t k v h = set_found_in found t k v (object t) refl h

    pub set_others_inside : ((o : O) (k l : List ℕ) (v : V) → bytes_eq k l ≡ false → inner (set o k v) l ≡ inner o l)
        → (t : T) (k l : List ℕ) (v : V) → bytes_eq k l ≡ false → member (member_set set of_object t (object t) k v) l ≡ member t l
    set_others_inside others t k l v far = set_others_in others t k l v (object t) refl far

  module _ (puts : O → List ℕ → V → O → Type 0) where
    pub put_found_inside : ((o p : O) (k : List ℕ) (v : V) → puts o k v p → inner p k ≡ Some v)
        → (t u : T) (k : List ℕ) (v : V) → PutsInside object of_object puts t k v u → member u k ≡ Some v
    put_found_inside found t u k v h = rw h.4 (in_written k h.1 ∙ found h.0 h.1 k v h.3)

    pub put_others_inside : ((o p : O) (k l : List ℕ) (v : V) → puts o k v p → bytes_eq k l ≡ false → inner p l ≡ inner o l)
        → (t u : T) (k l : List ℕ) (v : V) → PutsInside object of_object puts t k v u → bytes_eq k l ≡ false → member u l ≡ member t l
    put_others_inside others t u k l v h far = rw h.4 (in_written l h.1 ∙ others h.0 h.1 k l v h.3 far ∙ sym (in_object t l h.0 h.2))
