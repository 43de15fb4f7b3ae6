-- What the nodes of an array or an object list: its items or its members, and nothing after them.
use Rattle.std.specs.Prelude.{◌≡◌, ℕ, List}
use Rattle.sj_base.specs.Containers.{items_len, members_len}
use Rattle.sj_tape.specs.Listing.{Entry, items_listing, members_listing}
use Rattle.sj_tape.specs.Listed.{listed_items, listed_members}

abbrev pub ListsItems : ℕ → List Entry → Type 0
ListsItems len es = (items_listing (listed_items len es) ≡ es) × (items_len (listed_items len es) ≡ len)

abbrev pub ListsMembers : ℕ → List Entry → Type 0
ListsMembers len es = (members_listing (listed_members len es) ≡ es) × (members_len (listed_members len es) ≡ len)
