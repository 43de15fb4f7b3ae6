-- The part of a tree that a path selects, and the tree with that part replaced.
use Rattle.std.specs.Prelude.{ℕ, zero, suc, cond, List, [], ◌∷◌, Option, Some, None, option_and_then, bytes_eq}
use Rattle.sj_base.specs.Tree.{Tree, null, boolean, integer, decimal, string, list, object, Items, no_items, item, Members, no_members, member}

-- one step of a path: a key of an object, or the place of an item, from 0
pub data Part : Type 0 where
  key : List ℕ → Part
  place : ℕ → Part

-- the first member with that key
abbrev pub member_at : Members → List ℕ → Option Tree
member_at no_members k = None
member_at (member name t ms) k = cond (bytes_eq name k) (Some t) (member_at ms k)

abbrev pub item_at : Items → ℕ → Option Tree
item_at no_items n = None
item_at (item t ts) zero = Some t
item_at (item t ts) (suc n) = item_at ts n

-- A key selects in an object, a place in a list, and anything else nothing.
abbrev pub child : Tree → Part → Option Tree
child (object ms) (key k) = member_at ms k
child (list ts) (place n) = item_at ts n
child (object ms) (place n) = None
child (list ts) (key k) = None
child null part = None
child (boolean b) part = None
child (integer n) part = None
child (decimal literal) part = None
child (string s) part = None

-- the empty path selects the whole
abbrev pub at : Tree → List Part → Option Tree
at t [] = Some t
at t (part ∷ path) = option_and_then (λ u. at u path) (child t part)

-- the first member with that key, or the item at that place, is changed
abbrev pub change_member : (Tree → Tree) → Members → List ℕ → Members
change_member change no_members k = no_members
change_member change (member name t ms) k = cond (bytes_eq name k) (member name (change t) ms) (member name t (change_member change ms k))

abbrev pub change_item : (Tree → Tree) → Items → ℕ → Items
change_item change no_items n = no_items
change_item change (item t ts) zero = item (change t) ts
change_item change (item t ts) (suc n) = item t (change_item change ts n)

abbrev pub change_child : (Tree → Tree) → Tree → Part → Tree
change_child change (object ms) (key k) = object (change_member change ms k)
change_child change (list ts) (place n) = list (change_item change ts n)
change_child change (object ms) (place n) = object ms
change_child change (list ts) (key k) = list ts
change_child change null part = null
change_child change (boolean b) part = boolean b
change_child change (integer n) part = integer n
change_child change (decimal literal) part = decimal literal
change_child change (string s) part = string s

-- the tree with the part that the path selects replaced; where it selects nothing, the tree itself
abbrev pub put : Tree → List Part → Tree → Tree
put t [] new = new
put t (part ∷ path) new = change_child (λ u. put u path new) t part
