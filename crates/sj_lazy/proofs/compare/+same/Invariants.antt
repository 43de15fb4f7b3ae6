use Rattle.std.proofs.Common.{◌≡◌, ◌+◌, ◌*◌, ◌≤◌, length, map, []}
use Rattle.sj_base.specs.Containers.{items_len, item_trees}
use Rattle.sj_base.specs.Tree.{list, object}
use Rattle.sj_tape.specs.Listing.{listing, items_listing, members_listing}
use Rattle.sj_tape.specs.Views.{value_tree, array_items as tape_items, object_members as tape_members}
use Rattle.sj_lazy.specs.Parts.{array_items, object_members, items_left, values_left}
use Rattle.sj_lazy.specs.Views.{contents_tree}
use Rattle.sj_lazy.specs.inside.Comparing.{first_keys}
use Rattle.sj_lazy.proofs.Alike.{left_alike, rest_alike, behind_first, values_of}
use Rattle.sj_lazy.proofs.compare.+same.Given as goal

abbrev pub decreases-same_items : goal.decreases-same_items
decreases-same_items l = 3 * length (listing (list (tape_items l.items)))

abbrev pub decreases-same_members : goal.decreases-same_members
decreases-same_members l = 3 * length (listing (object (tape_members l.members)))

-- a value before its container
abbrev pub decreases-same_view : goal.decreases-same_view
decreases-same_view l = 3 * length (listing (value_tree l.view.now)) + 1

abbrev pub decreases-same_next : goal.decreases-same_next
decreases-same_next l = 3 * length (listing (value_tree l.view.now)) + 2

abbrev pub invariant-same_items-loop-item : goal.invariant-same_items-loop-item
invariant-same_items-loop-item l =
    (length (items_listing (tape_items l.rest)) ≤ length (items_listing (tape_items l.fn.items)))
    × (left_alike (tape_items l.rest) (map contents_tree (items_left l.left)) ≡ left_alike (tape_items l.fn.items) (item_trees (array_items l.fn.others)))
    × (items_len (tape_items l.rest) ≡ length (items_left l.left))

abbrev pub decreases-same_items-loop-item : goal.decreases-same_items-loop-item
decreases-same_items-loop-item l = length (items_listing (tape_items l.rest))

abbrev pub invariant-same_members-loop-count : goal.invariant-same_members-loop-count
invariant-same_members-loop-count l =
    (length (members_listing (tape_members l.rest)) ≤ length (members_listing (tape_members l.fn.members)))
    × (behind_first l.count (tape_members l.members) ≡ tape_members l.rest)
    × (rest_alike (first_keys l.count (tape_members l.members)) (tape_members l.rest) (object_members l.fn.others) ≡ rest_alike [] (tape_members l.fn.members) (object_members l.fn.others))
    × (l.count ≤ l.front → map contents_tree (values_left l.in_order) ≡ values_of (behind_first l.count (object_members l.fn.others)))
