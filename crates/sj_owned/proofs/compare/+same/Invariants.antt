use Rattle.std.proofs.Common.{◌≡◌, List, ◌++◌, length}
use Rattle.sj_object.specs.Iterators.{entries_left}
use Rattle.sj_object.specs.declared.entry.Entry.{Entry}
use Rattle.sj_owned.specs.Views.{value_tree}
use Rattle.sj_owned.specs.declared.value.Value.{Value}
use Rattle.sj_owned.proofs.Comparing.{Left, LeftMembers}
use Rattle.sj_owned.proofs.compare.+same.Given as goal

abbrev pub invariant-same_items-loop-item : goal.invariant-same_items-loop-item
invariant-same_items-loop-item g l =
    let at = l.item-iterator.a.rest.now in
    let there = l.item-iterator.b.rest.now in
    (length at ≡ length there) × Left (value_tree g.K.ObjectKey.text g.D.Literal.literal) (value_tree g.L.ObjectKey.text g.E.Literal.literal) l.items l.others at there

abbrev pub invariant-same_members-loop-key : goal.invariant-same_members-loop-key
invariant-same_members-loop-key g l =
    (goal.iterator-same_members-loop-key g).can_next l.key-iterator
    × (goal.iterator-same_members-loop-key g).is_finite l.key-iterator
    × ((done : List (Entry g.row.K.Denot (Value g.row.K.Denot g.row.D.Denot))) × (l.members ≡ done ++ entries_left l.key-iterator))
    × LeftMembers g.K.ObjectKey.text g.L.ObjectKey.text (value_tree g.K.ObjectKey.text g.D.Literal.literal) (value_tree g.L.ObjectKey.text g.E.Literal.literal) l.members l.others (entries_left l.key-iterator)
