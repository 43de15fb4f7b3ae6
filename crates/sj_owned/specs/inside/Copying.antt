-- What a copy of a document keeps, and what a conversion makes of it.
use Rattle.std.specs.Prelude.{ℕ, List, map}
use Rattle.sj_base.specs.Tree.{Tree}
use Rattle.sj_owned.specs.Copies.{Leaf, on_leaf, leaves}
use Rattle.sj_owned.specs.Views.{value_tree}
use Rattle.sj_owned.specs.declared.value.Value.{Value}

-- the tree and the leaves
abbrev pub Kept : Type 0 → Type 0 → Type 0
Kept T L = Tree × List (Leaf T L)

abbrev pub kept_key : {K T : Type 0} → (K → List ℕ) → (K → T) → K → List ℕ × T
kept_key text key k = (text k, key k)

module _ {K D T L : Type 0} (text : K → List ℕ) (literal : D → List ℕ) (key : K → T) (decimal : D → L) where
  abbrev pub kept_value : Value K D → Kept T L
  kept_value v = (value_tree text literal v, leaves key decimal v)

-- the same tree, with each text and literal converted
abbrev pub converted : {T U L M : Type 0} → (T → U) → (L → M) → Kept T L → Kept U M
converted key decimal c = (c.0, map (on_leaf key decimal) c.1)
