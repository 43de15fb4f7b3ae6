-- One look-up for each key decides the equality of two objects of one length.
use Rattle.std.proofs.Common.{◌≡◌, ℕ, zero, suc, ◌<◌, Bool, true, false, ◌||◌, List, [], ◌∷◌, Option, Some, None, length, get_or, take, refl, sym, subst, ap, ◌∙◌, inl, inr, arith}
use Rattle.std.specs.Prelude.{bytes_eq, is_some}
use Rattle.std.specs.Cmp.Lexicographic.{nat_list_eq_equiv}
use Rattle.std.specs.List.{IsDistinct, AllByRecursion, list_all}
use Rattle.std.specs.Option.{option_eq}
use Rattle.std.specs.Set.{is_member}
use Rattle.std.proofs.lemmas.Bool.{cases_Bool, or_parts, or_cases, and_from, and_parts, false≢true}
use Rattle.std.proofs.lemmas.Map.Made.{length-le_from_is_member, length-from_same_keys}
use Rattle.std.proofs.lemmas.Slice.Eq.{bytes_eq-Decides}
use Rattle.sj_object.specs.declared.entry.Entry.{Entry}
use Rattle.sj_object.specs.Compare.{agree_at, same_pairs}
use Rattle.sj_object.specs.Pairs.{keys_of, value_at, has_text, AreDistinct}
use Rattle.sj_object.specs.inside.Comparing.{none_or_passing, agree_everywhere, same_from_each}

others : (ks : List (List ℕ)) (k : List ℕ) → has_text ks k ≡ false → AllByRecursion (λ y. bytes_eq k y ≡ false) ks
others [] k h = tt
others (x ∷ ks) k h =
    let s = or_parts (bytes_eq x k) (has_text ks k) h in (nat_list_eq_equiv.symm k x ∙ s.0, others ks k s.1)

-- std's word
distinct : (ks : List (List ℕ)) → AreDistinct ks → IsDistinct bytes_eq ks
unfolding IsDistinct
distinct [] d = tt
distinct (k ∷ ks) d = (others ks k d.0, distinct ks d.1)

some_alike : {V : Type 0} (same : V → V → Bool) (p q : Option V) → option_eq same p q ≡ true → is_some p ≡ is_some q
some_alike same None None h = refl
some_alike same None (Some y) h = absurd (false≢true h)
some_alike same (Some x) None h = absurd (false≢true h)
some_alike same (Some x) (Some y) h = refl

module _ {K V : Type 0} (text : K → List ℕ) where
  length-keys_of : (es : List (Entry K V)) → length (keys_of text es) ≡ length es
  length-keys_of [] = refl
  length-keys_of (e ∷ es) = ap (λ n. suc n) (length-keys_of es)

  is_member-keys_of : (es : List (Entry K V)) (q : List ℕ) → is_member bytes_eq (keys_of text es) q ≡ is_some (value_at text es q)
  is_member-keys_of [] q = refl
  is_member-keys_of (e ∷ es) q =
      ap (λ b. b || is_member bytes_eq (keys_of text es) q) (nat_list_eq_equiv.symm q (text e.key))
      ∙ elim (cases_Bool (bytes_eq (text e.key) q)) [ inl y ↦ rw y refl | inr n ↦ rw n (is_member-keys_of es q) ]

  has_text-keys_of : (es : List (Entry K V)) (q : List ℕ) → value_at text es q ≡ None → has_text (keys_of text es) q ≡ false
  has_text-keys_of [] q h = refl
  has_text-keys_of (e ∷ es) q h =
      elim (cases_Bool (bytes_eq (text e.key) q)) [
        | inl y ↦ let found = rw y at h in cc
        | inr n ↦ rw n (has_text-keys_of es q (rw n at h))
      ]

  other_key : (d : Entry K V) (es : List (Entry K V)) (i : ℕ) (k : List ℕ) → has_text (keys_of text es) k ≡ false → i < length es → bytes_eq (text (get_or es i d).key) k ≡ false
  other_key d [] i k h l = absurd (omega arith)
  other_key d (e ∷ es) zero k h l = (or_parts (bytes_eq (text e.key) k) (has_text (keys_of text es) k) h).0
  other_key d (e ∷ es) (suc i) k h l = other_key d es i k (or_parts (bytes_eq (text e.key) k) (has_text (keys_of text es) k) h).1 (omega arith)

  -- a look-up of a pair's key finds its value
  own_value : (d : Entry K V) (es : List (Entry K V)) (i : ℕ) → AreDistinct (keys_of text es) → i < length es → value_at text es (text (get_or es i d).key) ≡ Some (get_or es i d).value
  own_value d [] i s l = absurd (omega arith)
  own_value d (e ∷ es) zero s l = rw (nat_list_eq_equiv.refl (text e.key)) refl
  own_value d (e ∷ es) (suc i) s l =
      let n = nat_list_eq_equiv.symm (text e.key) (text (get_or es i d).key) ∙ other_key d es i (text e.key) s.0 (omega arith) in
      rw n (own_value d es i s.1 (omega arith))

  pub own_pair : (e : Entry K V) (es : List (Entry K V)) (i : ℕ) → AreDistinct (keys_of text es) → i < length es → e ≡ get_or es i e → value_at text es (text e.key) ≡ Some e.value
  own_pair e es i s l h = subst (λ (x : Entry K V). value_at text es (text x.key) ≡ Some x.value) (sym h) (own_value e es i s l)

  -- one more key passes
  pub all_more : (t : List ℕ → Bool) (d : Entry K V) (es : List (Entry K V)) (i : ℕ) → i < length es → list_all t (keys_of text (take i es)) ≡ true → t (text (get_or es i d).key) ≡ true → list_all t (keys_of text (take (suc i) es)) ≡ true
  all_more t d [] i l a b = absurd (omega arith)
  all_more t d (e ∷ es) zero l a b = and_from _ _ b refl
  all_more t d (e ∷ es) (suc i) l a b =
      let s = and_parts (t (text e.key)) (list_all t (keys_of text (take i es))) a in and_from _ _ s.0 (all_more t d es i (omega arith) s.1 b)

  module _ (same : V → V → Bool) (es fs : List (Entry K V)) where
    pub agree_at-found : (q : List ℕ) (v : V) (r : Option V) → value_at text es q ≡ Some v → value_at text fs q ≡ r → agree_at text same es fs q ≡ option_eq same (Some v) r
    agree_at-found q v r a b = λ j. option_eq same (a j) (b j)

    pub unequal_at : (q : List ℕ) → agree_at text same es fs q ≡ false → false ≡ same_pairs text same es fs
    unequal_at q n =
        elim (cases_Bool (same_pairs text same es fs)) [ inl y ↦ absurd (false≢true (sym n ∙ agree_everywhere text same es fs y q)) | inr f ↦ sym f ]

    module _ (d : AreDistinct (keys_of text es)) (d' : AreDistinct (keys_of text fs)) where
      pub unequal_len : (length es ≡ length fs → ⊥) → false ≡ same_pairs text same es fs
      unequal_len differ =
          elim (cases_Bool (same_pairs text same es fs)) [
            | inl y ↦
                let keys = length-from_same_keys nat_list_eq_equiv (keys_of text es) (keys_of text fs) (distinct (keys_of text es) d) (distinct (keys_of text fs) d')
                (λ q. is_member-keys_of es q ∙ some_alike same (value_at text es q) (value_at text fs q) (agree_everywhere text same es fs y q) ∙ sym (is_member-keys_of fs q)) in
                absurd (differ (sym (length-keys_of es) ∙ keys ∙ length-keys_of fs))
            | inr f ↦ sym f
          ]

      module _ (len : length es ≡ length fs) (all : list_all (agree_at text same es fs) (keys_of text es) ≡ true) where
        found_there : (p : List ℕ) → is_member bytes_eq (keys_of text es) p ≡ true → is_member bytes_eq (keys_of text fs) p ≡ true
        found_there p m =
            let here = sym (is_member-keys_of es p) ∙ m in
            elim (none_or_passing text (agree_at text same es fs) es p all) [
              | inl a ↦ absurd (false≢true (ap is_some (sym a) ∙ here))
              | inr y ↦ is_member-keys_of fs p ∙ sym (some_alike same (value_at text es p) (value_at text fs p) y) ∙ here
            ]

        -- a key that only the second had would be one too many
        none_there : (q : List ℕ) → value_at text es q ≡ None → (r : Option V) → value_at text fs q ≡ r → option_eq same None r ≡ true
        none_there q a None e = refl
        none_there q a (Some v) e =
            let more = length-le_from_is_member nat_list_eq_equiv (q ∷ keys_of text es) (keys_of text fs) (distinct (q ∷ keys_of text es) (has_text-keys_of es q a, d))
            (λ p m. elim (or_cases (bytes_eq p q) (is_member bytes_eq (keys_of text es) p) m) [
              | inl y ↦ subst (λ k. is_member bytes_eq (keys_of text fs) k ≡ true) (sym ((bytes_eq-Decides p q).0 y)) (is_member-keys_of fs q ∙ ap is_some e)
              | inr n ↦ found_there p n
            ]) in
            absurd (omega (arith, length-keys_of es, length-keys_of fs))

        pub equal_by_keys : true ≡ same_pairs text same es fs
        equal_by_keys =
            sym (same_from_each text same es fs (λ q. elim (none_or_passing text (agree_at text same es fs) es q all) [
              | inl a ↦ ap (λ p. option_eq same p (value_at text fs q)) a ∙ none_there q a (value_at text fs q) refl
              | inr y ↦ y
            ]))
