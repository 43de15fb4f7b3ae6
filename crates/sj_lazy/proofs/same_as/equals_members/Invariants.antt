use Rattle.std.proofs.Common.{◌↔◌}
use Rattle.sj_owned.specs.SameAs.{EqualsFound}
use Rattle.sj_lazy.specs.Parts.{object_members}
use Rattle.sj_lazy.proofs.same_as.equals_members.Given as goal

abbrev pub invariant-loop-key : goal.invariant-loop-key
invariant-loop-key g l =
    let ms = object_members l.members in
    (goal.iterator-loop-key g).can_next l.key-iterator
    × (goal.iterator-loop-key g).is_finite l.key-iterator
    × (EqualsFound g.U.Comparand.equals l.key-iterator ms ↔ EqualsFound g.U.Comparand.equals l.map.entries ms)
