use Rattle.std.proofs.Common.{rules, arith, ◌≡◌, ◌≢◌, ◌∙◌, length, ap, sym}
use Rattle.sj_base.proofs.Ends.{both_end}
use Rattle.sj_tape.specs.Nodes.{node_entry, entries}
use Rattle.sj_tape.proofs.Comparing.{same_fronts, same_by_fronts}
use Rattle.sj_tape.proofs.compare.same_nodes.Goals as goal

pub loop-x-init : goal.loop-x-init
loop-x-init c = search rules

pub returns-then-not-same_node : goal.returns-then-not-same_node
returns-then-not-same_node c =
    let steps = c.in-Some.ensures.steps in
    let other : node_entry c.in-Some.x.now ≢ node_entry c.in-Some.y.now = search rules in
    ((λ t. cc), (λ e. absurd (other (same_fronts _ _ _ _ _ _ steps.0 steps.1 (c.loop-x.invariant.1.1 e)).0)))

pub loop-x-preserved : goal.loop-x-preserved
loop-x-preserved c =
    let steps = c.in-Some.ensures.steps in
    let same : node_entry c.in-Some.x.now ≡ node_entry c.in-Some.y.now = search rules in
    let whole = c.loop-x.invariant.1 in (
      omega (arith, ap length steps.0, ap length steps.1, c.loop-x.invariant.0),
      (
        (λ behind. whole.0 (same_by_fronts _ _ _ _ _ _ steps.0 steps.1 same behind)),
        (λ e. (same_fronts _ _ _ _ _ _ steps.0 steps.1 (whole.1 e)).1),
      ),
    )

pub returns : goal.returns
returns c =
    let ends = both_end _ _ c.loop-x.invariant.0 c.in-None.ensures.steps in
    ((λ t. c.loop-x.invariant.1.0 (ap entries ends.0 ∙ sym (ap entries ends.1))), (λ e. cc))
