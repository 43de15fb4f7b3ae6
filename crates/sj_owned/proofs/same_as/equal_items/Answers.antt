use Rattle.std.proofs.Common.{length, refl, ap, arith, rules}
use Rattle.sj_base.proofs.Ends.{both_end}
use Rattle.sj_owned.specs.Views.{value_tree}
use Rattle.sj_owned.proofs.Zipped.{as_many, cut_equal, put_equal, nothing_equal}
use Rattle.sj_owned.proofs.same_as.equal_items.Goals as goal

pub returns-then-values-items : goal.returns-then-values-items
returns-then-values-items g c =
    ((λ t. cc), (λ h. absurd (c.if-values-items.true (as_many g.U.Comparand.equals (value_tree g.K.ObjectKey.text g.D.Literal.literal) c.args.values.now c.args.items.now h))))

pub loop-value-init : goal.loop-value-init
loop-value-init g c = search rules

pub returns-then-not-equals : goal.returns-then-not-equals
returns-then-not-equals g c =
    let equals = g.U.Comparand.equals in
    let tree = value_tree g.K.ObjectKey.text g.D.Literal.literal in
    let steps = c.in-Some.ensures.steps in
    let other : equals c.in-Some.value.now (tree c.in-Some.item.now) → ⊥ = search rules in
    ((λ t. cc), (λ h. absurd (other (cut_equal equals tree steps.0 steps.1 (c.loop-value.invariant.1.1 h)).0)))

pub loop-value-preserved : goal.loop-value-preserved
loop-value-preserved g c =
    let equals = g.U.Comparand.equals in
    let tree = value_tree g.K.ObjectKey.text g.D.Literal.literal in
    let steps = c.in-Some.ensures.steps in
    let same : equals c.in-Some.value.now (tree c.in-Some.item.now) = search rules in
    let whole = c.loop-value.invariant.1 in (
      omega (arith, ap length steps.0, ap length steps.1, c.loop-value.invariant.0),
      ((λ h. whole.0 (put_equal equals tree steps.0 steps.1 same h)), (λ h. (cut_equal equals tree steps.0 steps.1 (whole.1 h)).1)),
    )

pub returns : goal.returns
returns g c =
    let ends = both_end _ _ c.loop-value.invariant.0 c.in-None.ensures.steps in
    let all = c.loop-value.invariant.1.0 (nothing_equal g.U.Comparand.equals (value_tree g.K.ObjectKey.text g.D.Literal.literal) ends.0 ends.1) in
    ((λ t. all), (λ h. refl))
