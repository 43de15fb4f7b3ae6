-- Items and members of documents, seen as trees.
use Rattle.std.proofs.Common.{◌≡◌, ℕ, suc, List, [], ◌∷◌, length, map, refl, sym, ap, ◌∙◌}
use Rattle.std.proofs.lemmas.Simd.{map-map}
use Rattle.sj_base.specs.Containers.{items_len, members_len, item_trees, member_pairs}
use Rattle.sj_base.specs.Tree.{Tree}
use Rattle.sj_build.specs.Trees.{items_of, members_of, on_values}
use Rattle.sj_object.specs.declared.entry.Entry.{Entry}

module _ {V : Type 0} (tree : V → Tree) where
  pub items_count : (vs : List V) → length vs ≡ items_len (items_of (map tree vs))
  items_count [] = refl
  items_count (v ∷ vs) = ap (λ n. suc n) (items_count vs)

  pub trees_of_items : (vs : List V) → map tree vs ≡ item_trees (items_of (map tree vs))
  trees_of_items [] = refl
  trees_of_items (v ∷ vs) = ap (λ l. tree v ∷ l) (trees_of_items vs)

  module _ {K : Type 0} (text : K → List ℕ) where
    abbrev pair : Entry K V → List ℕ × Tree
    pair e = (text e.key, tree e.value)

    pub members_count : (es : List (Entry K V)) → length es ≡ members_len (members_of text (on_values tree es))
    members_count [] = refl
    members_count (e ∷ es) = ap (λ n. suc n) (members_count es)

    pub pairs_of_members : (es : List (Entry K V)) → map pair es ≡ member_pairs (members_of text (on_values tree es))
    pairs_of_members [] = refl
    pairs_of_members (e ∷ es) = ap (λ l. pair e ∷ l) (pairs_of_members es)

    pub keys_of_members : (es : List (Entry K V)) → map (λ (e : Entry K V). text e.key) es ≡ map (λ (p : List ℕ × Tree). p.0) (member_pairs (members_of text (on_values tree es)))
    keys_of_members es = sym (map-map (λ (p : List ℕ × Tree). p.0) pair es) ∙ ap (map (λ (p : List ℕ × Tree). p.0)) (pairs_of_members es)

    pub values_of_members : (es : List (Entry K V)) → map (λ (e : Entry K V). tree e.value) es ≡ map (λ (p : List ℕ × Tree). p.1) (member_pairs (members_of text (on_values tree es)))
    values_of_members es = sym (map-map (λ (p : List ℕ × Tree). p.1) pair es) ∙ ap (map (λ (p : List ℕ × Tree). p.1)) (pairs_of_members es)
