use Rattle.std.proofs.Common.{◌↔◌}
use Rattle.sj_owned.specs.SameAs.{EqualsFound}
use Rattle.sj_owned.specs.Views.{members_view}
use Rattle.sj_owned.proofs.same_as.equal_members.Given as goal

abbrev pub invariant-loop-key : goal.invariant-loop-key
invariant-loop-key g l =
    let ms = members_view g.K.ObjectKey.text g.D.Literal.literal l.members in
    (goal.iterator-loop-key g).can_next l.key-iterator
    × (goal.iterator-loop-key g).is_finite l.key-iterator
    × (EqualsFound g.U.Comparand.equals l.key-iterator ms ↔ EqualsFound g.U.Comparand.equals l.map.entries ms)
