-- Comparisons of documents, and the laws of `==`.
use Rattle.std.specs.Prelude.{◌≡◌, Bool}
use Rattle.std.specs.Cmp.{IsEquivalence, IsPartialEquivalence, equiv}
use Rattle.sj_base.specs.Tree.{Tree}
use Rattle.sj_base.specs.Keep.{keep}
use Rattle.sj_base.specs.Alike.{alike}
use Rattle.sj_base.proofs.Alike.{alike_to_itself, alike_both_ways, alike_in_turn}
use Rattle.sj_base.proofs.Keeping.{keeps_once}
use Rattle.sj_owned.specs.Compare.{kept_alike}

-- what a comparison finds: whether the trees are alike, and whether what is kept of them is
abbrev pub Compares : Bool → Tree → Tree → Type 0
Compares r s t = (r ≡ alike s t) × (r ≡ kept_alike s t)

-- On kept trees `alike` is an equivalence.
pub kept_alike-partial : IsPartialEquivalence kept_alike
kept_alike-partial = record {
  symm = λ s t. alike_both_ways (keep s) (keep t) (keeps_once s) (keeps_once t);
  trans = λ s t u. alike_in_turn (keep s) (keep t) (keep u);
}

pub kept_alike-equiv : IsEquivalence kept_alike
kept_alike-equiv = equiv kept_alike-partial (λ t. alike_to_itself (keep t) (keeps_once t))
