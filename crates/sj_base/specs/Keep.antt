-- Trees without repeated keys: of several members with the same key only the first is kept (RFC 8259, section 4, leaves
-- the meaning of repeated keys open).
use Rattle.std.specs.Prelude.{◌≡◌, ℕ, cond, List, bytes_eq}
use Rattle.sj_base.specs.Tree.{Tree, null, boolean, integer, decimal, string, list, object, Items, no_items, item, Members, no_members, member}

-- the members with another key
abbrev pub without : List ℕ → Members → Members
without key no_members = no_members
without key (member k t ms) = cond (bytes_eq k key) (without key ms) (member k t (without key ms))

-- the first member of each key alone, in each object of the tree
abbrev mutual
  pub keep : Tree → Tree
  keep null = null
  keep (boolean b) = boolean b
  keep (integer n) = integer n
  keep (decimal literal) = decimal literal
  keep (string s) = string s
  keep (list ts) = list (keep_items ts)
  keep (object ms) = object (keep_members ms)

  pub keep_items : Items → Items
  keep_items no_items = no_items
  keep_items (item t ts) = item (keep t) (keep_items ts)

  pub keep_members : Members → Members
  keep_members no_members = no_members
  keep_members (member k t ms) = member k (keep t) (without k (keep_members ms))

-- No object of the tree repeats a key.
abbrev pub IsKept : Tree → Type 0
IsKept t = keep t ≡ t
