use Rattle.std.proofs.Common.{◌≡◌, ◌≤◌, [], take, length}
use Rattle.sj_tape.specs.Nodes.{entries}
use Rattle.sj_build.specs.inside.Building.{stack, placed}
use Rattle.sj_build.proofs.build.build_value.Given as goal

abbrev pub invariant-loop-left : goal.invariant-loop-left
invariant-loop-left g l =
    (l.left ≤ length l.nodes)
    × (placed (entries (take l.left l.nodes)) (stack g.V.BuildValue.tree l.parts) ≡ placed (entries l.nodes) [])
    × (l.left ≡ 0 → length l.nodes ≡ 0)

abbrev pub decreases-loop-left : goal.decreases-loop-left
decreases-loop-left g l = l.left
