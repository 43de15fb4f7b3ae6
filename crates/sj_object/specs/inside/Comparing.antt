-- The laws of `==` on objects.
use Rattle.std.specs.Prelude.{◌≡◌, ℕ, Bool, true, ◌&&◌, ◌⊎◌, List, [], ◌∷◌, Option, Some, None, bytes_eq, refl}
use mathlib.Core.Bool.{and_comm}
use Rattle.std.proofs.Common.{subst, ◌∙◌, inl, inr}
use Rattle.std.proofs.lemmas.Bool.{cases_Bool, and_from, and_parts, false≢true}
use Rattle.std.proofs.lemmas.Slice.Eq.{bytes_eq-Decides}
use Rattle.std.specs.List.{list_all}
use Rattle.std.specs.Option.{option_eq}
use Rattle.sj_object.specs.Compare.{agree_at, same_pairs}
use Rattle.sj_object.specs.Pairs.{keys_of, value_at}
use Rattle.sj_object.specs.declared.entry.Entry.{Entry}

all_from_each : (t : List ℕ → Bool) → ((k : List ℕ) → t k ≡ true) → (ks : List (List ℕ)) → list_all t ks ≡ true
all_from_each t f [] = refl
all_from_each t f (k ∷ ks) = and_from _ _ (f k) (all_from_each t f ks)

module _ {V : Type 0} (same : V → V → Bool) where
  option_eq-symm : ((x y : V) → same x y ≡ same y x) → (p q : Option V) → option_eq same p q ≡ option_eq same q p
  option_eq-symm f None None = refl
  option_eq-symm f None (Some y) = refl
  option_eq-symm f (Some x) None = refl
  option_eq-symm f (Some x) (Some y) = f x y

  option_eq-trans : ((x y z : V) → same x y ≡ true → same y z ≡ true → same x z ≡ true) → (p q r : Option V) → option_eq same p q ≡ true → option_eq same q r ≡ true → option_eq same p r ≡ true
  option_eq-trans f None None r a b = b
  option_eq-trans f None (Some y) r a b = absurd (false≢true a)
  option_eq-trans f (Some x) None r a b = absurd (false≢true a)
  option_eq-trans f (Some x) (Some y) None a b = b
  option_eq-trans f (Some x) (Some y) (Some z) a b = f x y z a b

module _ {K V : Type 0} (text : K → List ℕ) where
  -- a test that each key passes is passed by any text that has a value
  pub none_or_passing : (t : List ℕ → Bool) (es : List (Entry K V)) (q : List ℕ) → list_all t (keys_of text es) ≡ true → (value_at text es q ≡ None) ⊎ (t q ≡ true)
  none_or_passing t [] q h = inl refl
  none_or_passing t (e ∷ es) q h =
      let s = and_parts (t (text e.key)) (list_all t (keys_of text es)) h in
      elim (cases_Bool (bytes_eq (text e.key) q)) [
        | inl y ↦ inr (subst (λ (k : List ℕ). t k ≡ true) ((bytes_eq-Decides (text e.key) q).0 y) s.0)
        | inr n ↦ elim (none_or_passing t es q s.1) [ inl a ↦ inl (rw n a) | inr b ↦ inr b ]
      ]

  module _ (same : V → V → Bool) where
    pub agree_everywhere : (es fs : List (Entry K V)) → same_pairs text same es fs ≡ true → (q : List ℕ) → agree_at text same es fs q ≡ true
    agree_everywhere es fs h q =
        let t = agree_at text same es fs in
        let s = and_parts (list_all t (keys_of text es)) (list_all t (keys_of text fs)) h in
        elim (none_or_passing t es q s.0) [
          | inr y ↦ y
          | inl a ↦ elim (none_or_passing t fs q s.1) [ inr y ↦ y | inl b ↦ λ i. option_eq same (a i) (b i) ]
        ]

    pub same_from_each : (es fs : List (Entry K V)) → ((q : List ℕ) → agree_at text same es fs q ≡ true) → same_pairs text same es fs ≡ true
    same_from_each es fs f = and_from _ _ (all_from_each _ f (keys_of text es)) (all_from_each _ f (keys_of text fs))

    pub same_pairs-symm : ((x y : V) → same x y ≡ same y x) → (es fs : List (Entry K V)) → same_pairs text same es fs ≡ same_pairs text same fs es
    same_pairs-symm f es fs =
        let back : (k : List ℕ) → agree_at text same es fs k ≡ agree_at text same fs es k = λ k. option_eq-symm same f (value_at text es k) (value_at text fs k) in
        (λ i. list_all (λ k. back k i) (keys_of text es) && list_all (λ k. back k i) (keys_of text fs))
        ∙ and_comm (list_all (agree_at text same fs es) (keys_of text es)) (list_all (agree_at text same fs es) (keys_of text fs))

    pub same_pairs-trans : ((x y z : V) → same x y ≡ true → same y z ≡ true → same x z ≡ true) → (es fs gs : List (Entry K V)) → same_pairs text same es fs ≡ true → same_pairs text same fs gs ≡ true → same_pairs text same es gs ≡ true
    same_pairs-trans f es fs gs a b =
        same_from_each es gs (λ q. option_eq-trans same f (value_at text es q) (value_at text fs q) (value_at text gs q) (agree_everywhere es fs a q) (agree_everywhere fs gs b q))
