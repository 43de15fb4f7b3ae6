use Rattle.std.proofs.Common.{◌≡◌, length}
use Rattle.sj_object.specs.inside.Chains.{sought}
use Rattle.sj_object.proofs.table.seek.Given as goal

abbrev pub invariant-loop-left : goal.invariant-loop-left
invariant-loop-left g l =
    let found = sought g.K.ObjectKey.text l.entries l.hash l.key in found (length l.links) l.links l.fn.start ≡ found l.left l.links l.at

abbrev pub decreases-loop-left : goal.decreases-loop-left
decreases-loop-left g l = l.left
