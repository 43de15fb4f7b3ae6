use Rattle.std.proofs.Common.{◌≡◌, ◌+◌, ◌*◌, ◌≤◌, [], length}
use Rattle.std.specs.Prelude.{take, drop}
use Rattle.sj_base.specs.Tree.{list, object}
use Rattle.sj_base.specs.Containers.{items_len}
use Rattle.sj_tape.specs.Listing.{listing, items_listing, members_listing}
use Rattle.sj_tape.specs.Repeats.{repeated_in_items, repeated_in_members}
use Rattle.sj_tape.specs.Views.{value_tree, array_items, object_members}
use Rattle.sj_tape.specs.inside.Earlier.{texts, Lists}
use Rattle.sj_tape.proofs.repeat.+search.Given as goal

-- a container before its items, a value before its container
abbrev pub decreases-first_in : goal.decreases-first_in
decreases-first_in l = 2 * length (listing (value_tree l.value.now)) + 1

abbrev pub decreases-first_in_items : goal.decreases-first_in_items
decreases-first_in_items l = 2 * length (listing (list (array_items l.items)))

abbrev pub decreases-first_in_members : goal.decreases-first_in_members
decreases-first_in_members l = 2 * length (listing (object (object_members l.members)))

abbrev pub invariant-first_in_items-loop-item : goal.invariant-first_in_items-loop-item
invariant-first_in_items-loop-item l =
    let all = array_items l.fn.items in
    let rest = array_items l.rest in
    (length (items_listing rest) ≤ length (items_listing all))
    × (l.place + items_len rest ≡ items_len all)
    × (l.keys.items ≡ l.fn.keys.items)
    × (repeated_in_items 0 all ≡ repeated_in_items l.place rest)

abbrev pub decreases-first_in_items-loop-item : goal.decreases-first_in_items-loop-item
decreases-first_in_items-loop-item l = length (items_listing (array_items l.rest))

abbrev pub invariant-first_in_members-loop-key : goal.invariant-first_in_members-loop-key
invariant-first_in_members-loop-key l =
    let all = object_members l.fn.members in
    let rest = object_members l.rest in
    let earlier = texts (drop l.start l.keys.items) in
    (length (members_listing rest) ≤ length (members_listing all))
    × (l.start ≤ length l.keys.items)
    × (take l.start l.keys.items ≡ l.fn.keys.items)
    × Lists l.listed earlier
    × (repeated_in_members [] all ≡ repeated_in_members earlier rest)

abbrev pub decreases-first_in_members-loop-key : goal.decreases-first_in_members-loop-key
decreases-first_in_members-loop-key l = length (members_listing (object_members l.rest))
