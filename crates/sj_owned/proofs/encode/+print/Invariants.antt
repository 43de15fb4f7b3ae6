use Rattle.std.proofs.Common.{◌≡◌, ◌+◌, ◌*◌, ◌≤◌, drop, length}
use Rattle.sj_base.proofs.Towards.{Toward}
use Rattle.sj_base.specs.Tree.{list, object}
use Rattle.sj_base.specs.Layout.{inside, laid_out, rest_text, item_texts, member_texts}
use Rattle.sj_object.specs.Iterators.{entries_left}
use Rattle.sj_tape.specs.Listing.{listing, items_listing, members_listing}
use Rattle.sj_owned.specs.Views.{value_tree, items_view, members_view}
use Rattle.sj_owned.proofs.encode.+print.Given as goal

-- a container before its items, a value before its container
abbrev pub decreases-print_items : goal.decreases-print_items
decreases-print_items g l = 2 * length (listing (list (items_view g.K.ObjectKey.text g.D.Literal.literal l.items.now)))

abbrev pub decreases-print_members : goal.decreases-print_members
decreases-print_members g l = 2 * length (listing (object (members_view g.K.ObjectKey.text g.D.Literal.literal l.members.now)))

abbrev pub decreases-print_value : goal.decreases-print_value
decreases-print_value g l = 2 * length (listing (value_tree g.K.ObjectKey.text g.D.Literal.literal l.value.now)) + 1

abbrev pub invariant-print_items-loop-item : goal.invariant-print_items-loop-item
invariant-print_items-loop-item g l =
    let view = items_view g.K.ObjectKey.text g.D.Literal.literal in
    (length (items_listing (view (drop l.item-index l.items))) ≤ length (items_listing (view l.items)))
    × (l.list.inside ≡ inside l.fn.layout)
    × Toward g.O.Output.appends g.O.Output.begins l.fn.out l.out (rest_text l.list (item_texts l.list.inside (view (drop l.item-index l.items)))) (laid_out l.fn.layout (list (view l.items)))

abbrev pub invariant-print_members-loop-key : goal.invariant-print_members-loop-key
invariant-print_members-loop-key g l =
    let view = members_view g.K.ObjectKey.text g.D.Literal.literal in
    (goal.iterator-print_members-loop-key g).can_next l.key-iterator
    × (goal.iterator-print_members-loop-key g).is_finite l.key-iterator
    × (length (members_listing (view (entries_left l.key-iterator))) ≤ length (members_listing (view l.fn.members)))
    × (l.object.inside ≡ inside l.fn.layout)
    × Toward g.O.Output.appends g.O.Output.begins l.fn.out l.out (rest_text l.object (member_texts l.object.inside (view (entries_left l.key-iterator)))) (laid_out l.fn.layout (object (view l.fn.members)))
