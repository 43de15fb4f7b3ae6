use Rattle.std.proofs.Common.{◌≡◌, ◌+◌, ◌*◌, ◌≤◌, length}
use Rattle.sj_base.specs.Tree.{list, object}
use Rattle.sj_base.specs.Layout.{inside, laid_out, rest_text, item_texts, member_texts}
use Rattle.sj_base.proofs.Towards.{Toward}
use Rattle.sj_tape.specs.Listing.{listing, items_listing, members_listing}
use Rattle.sj_tape.specs.Views.{value_tree, array_items, object_members}
use Rattle.sj_tape.proofs.encode.+print.Given as goal

-- a container before its items, a value before its container
abbrev pub decreases-print_items : goal.decreases-print_items
decreases-print_items g l = 2 * length (listing (list (array_items l.items)))

abbrev pub decreases-print_members : goal.decreases-print_members
decreases-print_members g l = 2 * length (listing (object (object_members l.members)))

abbrev pub decreases-print_value : goal.decreases-print_value
decreases-print_value g l = 2 * length (listing (value_tree l.value.now)) + 1

abbrev pub invariant-print_items-loop-item : goal.invariant-print_items-loop-item
invariant-print_items-loop-item g l =
    (length (items_listing (array_items l.rest)) ≤ length (items_listing (array_items l.items)))
    × (l.list.inside ≡ inside l.fn.layout)
    × Toward g.O.Output.appends g.O.Output.begins l.fn.out l.out (rest_text l.list (item_texts l.list.inside (array_items l.rest))) (laid_out l.fn.layout (list (array_items l.items)))

abbrev pub decreases-print_items-loop-item : goal.decreases-print_items-loop-item
decreases-print_items-loop-item g l = length (items_listing (array_items l.rest))

abbrev pub invariant-print_members-loop-key : goal.invariant-print_members-loop-key
invariant-print_members-loop-key g l =
    (length (members_listing (object_members l.rest)) ≤ length (members_listing (object_members l.members)))
    × (l.object.inside ≡ inside l.fn.layout)
    × Toward g.O.Output.appends g.O.Output.begins l.fn.out l.out (rest_text l.object (member_texts l.object.inside (object_members l.rest))) (laid_out l.fn.layout (object (object_members l.members)))

abbrev pub decreases-print_members-loop-key : goal.decreases-print_members-loop-key
decreases-print_members-loop-key g l = length (members_listing (object_members l.rest))
