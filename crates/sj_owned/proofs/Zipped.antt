-- Values and the trees of documents, pair by pair.
use Rattle.std.proofs.Common.{◌≡◌, suc, List, [], ◌∷◌, length, map, refl, sym, ap, subst}
use Rattle.std.specs.List.{AllZip}
use Rattle.sj_base.specs.Tree.{Tree}
use Rattle.sj_base.specs.Containers.{item_trees}
use Rattle.sj_build.specs.Trees.{items_of}

module _ {U V : Type 0} (equals : U → Tree → Type 0) (tree : V → Tree) where
  -- each value equals the tree at its place
  abbrev pub AreEqual : List U → List V → Type 0
  AreEqual us vs = AllZip equals us (item_trees (items_of (map tree vs)))

  pub as_many : (us : List U) (vs : List V) → AreEqual us vs → length us ≡ length vs
  as_many [] [] h = refl
  as_many [] (v ∷ vs) h = absurd h
  as_many (u ∷ us) [] h = absurd h
  as_many (u ∷ us) (v ∷ vs) h = ap (λ n. suc n) (as_many us vs h.1)

  module _ {us more : List U} {vs others : List V} {u : U} {v : V} (a : us ≡ u ∷ more) (b : vs ≡ v ∷ others) where
    pub cut_equal : AreEqual us vs → equals u (tree v) × AreEqual more others
    cut_equal h = subst (λ l. AreEqual (u ∷ more) l) b (subst (λ l. AreEqual l vs) a h)

    pub put_equal : equals u (tree v) → AreEqual more others → AreEqual us vs
    put_equal e h = subst (λ l. AreEqual l vs) (sym a) (subst (λ l. AreEqual (u ∷ more) l) (sym b) (e, h))

  pub nothing_equal : {us : List U} {vs : List V} → us ≡ [] → vs ≡ [] → AreEqual us vs
  nothing_equal {us} {vs} a b = subst (λ l. AreEqual l vs) (sym a) (subst (λ l. AreEqual [] l) (sym b) tt)
