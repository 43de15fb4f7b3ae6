use Rattle.std.proofs.Common.{◌≡◌, length, subst, sym, ◌∙◌, rules}
use Rattle.std.proofs.IntoIterSteps.{All-taken}
use Rattle.std.proofs.lemmas.Result.{IfOk-weaker}
use Rattle.std.specs.Cmp.Lexicographic.{slice_cmp}
use Rattle.std.specs.List.Sorted.{IsPermutation, IsSortedByKey}
use Rattle.std.specs.Ordering.{nat_cmp}
use Rattle.sj_owned.proofs.Made.{front}
use Rattle.sj_owned.proofs.value.Value.from_map.Goals as goal

pub returns : goal.returns
returns g c =
    IfOk-weaker c.from_pairs.result _ _ (λ v h.
    let many : c.in_ok-pairs.pairs.len ≡ length c.sort_pairs.new.pairs = search rules in
    let same : c.sort_pairs.new.pairs ≡ h.1 = sym (All-taken h.0 h.1 h.3 ∙ h.2.0 ∙ front c.in_ok-pairs.pairs.len c.sort_pairs.new.pairs _ many) in
    let moved = subst (λ ps. IsPermutation c.deref_mut.result.now ps) same c.sort_pairs.ensures.moved in (
      h.1,
      subst (λ ps. IsPermutation ps h.1) (c.deref_mut.ensures.value ∙ c.in_ok-pairs.ensures) moved,
      subst (λ ps. IsSortedByKey (λ p. g.K.ObjectKey.text p.0) (slice_cmp nat_cmp) ps) same c.sort_pairs.ensures.sorted,
      h.4,
    )) c.from_pairs.ensures
