use Rattle.std.proofs.Common.{◌≡◌, ◌++◌, List, drop, max}
use Rattle.sj_base.specs.Tree.{items_depth, members_depth, AreValidItems, AreValidMembers}
use Rattle.sj_object.specs.Iterators.{entries_left}
use Rattle.sj_object.specs.declared.entry.Entry.{Entry}
use Rattle.sj_owned.specs.Views.{items_view, members_view}
use Rattle.sj_owned.specs.declared.value.Value.{Value}
use Rattle.sj_owned.specs.inside.Depths.{KeepItems}
use Rattle.sj_owned.proofs.Depths.{KeepEach}
use Rattle.sj_owned.proofs.depth.+count_levels.Given as goal

abbrev pub invariant-count_item_levels-loop-item : goal.invariant-count_item_levels-loop-item
invariant-count_item_levels-loop-item g l =
    let text = g.K.ObjectKey.text in
    let literal = g.D.Literal.literal in
    (max l.deepest (items_depth (items_view text literal (drop l.item-index l.item-items))) ≡ items_depth (items_view text literal l.item-items))
    × (KeepItems text literal (drop l.item-index l.item-items) → KeepItems text literal l.item-items)
    × (AreValidItems (items_view text literal (drop l.item-index l.item-items)) → AreValidItems (items_view text literal l.item-items))

abbrev pub invariant-count_member_levels-loop-key : goal.invariant-count_member_levels-loop-key
invariant-count_member_levels-loop-key g l =
    let text = g.K.ObjectKey.text in
    let literal = g.D.Literal.literal in
    (goal.iterator-count_member_levels-loop-key g).can_next l.key-iterator
    × (goal.iterator-count_member_levels-loop-key g).is_finite l.key-iterator
    × (done : List (Entry g.row.K.Denot (Value g.row.K.Denot g.row.D.Denot)))
    × (l.fn.members ≡ done ++ entries_left l.key-iterator)
    × (max l.deepest (members_depth (members_view text literal (entries_left l.key-iterator))) ≡ members_depth (members_view text literal l.fn.members))
    × (KeepEach text literal (entries_left l.key-iterator) → KeepEach text literal l.fn.members)
    × (AreValidMembers (members_view text literal (entries_left l.key-iterator)) → AreValidMembers (members_view text literal l.fn.members))
