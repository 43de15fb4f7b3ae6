use Rattle.std.proofs.Common.{◌≡◌, [], length}
use Rattle.sj_tape.specs.Nodes.{entries}
use Rattle.sj_build.specs.inside.Building.{stack, placed}
use Rattle.sj_build.proofs.build.build_tape.Given as goal

abbrev pub invariant-loop-node : goal.invariant-loop-node
invariant-loop-node g l =
    (placed (entries l.nodes.items) (stack g.V.BuildValue.tree l.parts) ≡ placed (entries l.initial.nodes.items) [])
    × (length l.nodes.items ≡ 0 → length l.initial.nodes.items ≡ 0)

abbrev pub decreases-loop-node : goal.decreases-loop-node
decreases-loop-node g l = length l.nodes.items
