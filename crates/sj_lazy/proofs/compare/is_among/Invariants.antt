use Rattle.std.proofs.Common.{◌≡◌}
use Rattle.sj_tape.specs.Views.{object_members}
use Rattle.sj_lazy.specs.inside.Comparing.{among, first_keys}
use Rattle.sj_lazy.proofs.compare.is_among.Given as goal

abbrev pub invariant-loop-left : goal.invariant-loop-left
invariant-loop-left l = among (first_keys l.left (object_members l.rest)) l.name ≡ among (first_keys l.count (object_members l.members)) l.name

abbrev pub decreases-loop-left : goal.decreases-loop-left
decreases-loop-left l = l.left
