-- The items of a list and the members of an object.
use Rattle.std.specs.Prelude.{ℕ, suc, List, [], ◌∷◌, Option, Some, None}
use Rattle.sj_base.specs.Tree.{Tree, null, boolean, integer, decimal, string, list, object, Items, no_items, item, Members, no_members, member}

abbrev pub items_len : Items → ℕ
items_len no_items = 0
items_len (item t ts) = suc (items_len ts)

abbrev pub members_len : Members → ℕ
members_len no_members = 0
members_len (member k t ms) = suc (members_len ms)

-- items and members as lists, in document order
abbrev pub item_trees : Items → List Tree
item_trees no_items = []
item_trees (item t ts) = t ∷ item_trees ts

abbrev pub member_pairs : Members → List (List ℕ × Tree)
member_pairs no_members = []
member_pairs (member k t ms) = (k, t) ∷ member_pairs ms

abbrev pub items_in : Tree → Option Items
items_in null = None
items_in (boolean b) = None
items_in (integer n) = None
items_in (decimal literal) = None
items_in (string s) = None
items_in (list ts) = Some ts
items_in (object ms) = None

abbrev pub members_in : Tree → Option Members
members_in null = None
members_in (boolean b) = None
members_in (integer n) = None
members_in (decimal literal) = None
members_in (string s) = None
members_in (list ts) = None
members_in (object ms) = Some ms

-- the tree itself, unless it is a list or an object
abbrev pub scalar_in : Tree → Option Tree
scalar_in null = Some null
scalar_in (boolean b) = Some (boolean b)
scalar_in (integer n) = Some (integer n)
scalar_in (decimal literal) = Some (decimal literal)
scalar_in (string s) = Some (string s)
scalar_in (list ts) = None
scalar_in (object ms) = None
