-- The keys of a copy have the texts of the keys that were copied.
use Rattle.std.proofs.Common.{◌≡◌, ℕ, List, [], ◌∷◌, refl, ap, ap₂}
use Rattle.sj_object.specs.declared.entry.Entry.{Entry}
use Rattle.sj_object.specs.Copies.{copied_pairs}
use Rattle.sj_object.specs.Pairs.{keys_of}

same_first : {X : Type 0} (x y : X) (xs ys : List X) → x ∷ xs ≡ y ∷ ys → x ≡ y
same_first x y xs ys h = cc

same_rest : {X : Type 0} (x y : X) (xs ys : List X) → x ∷ xs ≡ y ∷ ys → xs ≡ ys
same_rest x y xs ys h = cc

module _ {K V C D : Type 0} (text : K → List ℕ) (key : K → C) (value : V → D) (keeps : (a b : K) → key a ≡ key b → text a ≡ text b) where
  pub copied_keys : (fs es : List (Entry K V)) → copied_pairs key value fs ≡ copied_pairs key value es → keys_of text fs ≡ keys_of text es
  copied_keys [] [] h = refl
  copied_keys [] (e ∷ es) h = cc
  copied_keys (f ∷ fs) [] h = cc
  copied_keys (f ∷ fs) (e ∷ es) h =
      let first = same_first (key f.key, value f.value) (key e.key, value e.value) (copied_pairs key value fs) (copied_pairs key value es) h in
      let rest = same_rest (key f.key, value f.value) (key e.key, value e.value) (copied_pairs key value fs) (copied_pairs key value es) h in
      ap₂ (λ k ks. k ∷ ks) (keeps f.key e.key (ap (λ p. p.0) first)) (copied_keys fs es rest)
