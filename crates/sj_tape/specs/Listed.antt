-- The tree whose listing some entries are. It is built from the last entry to the first.
use Rattle.std.specs.Prelude.{◌≡◌, ℕ, zero, suc, ◌+◌, List, [], ◌∷◌, Option, Some, None, drop}
use Rattle.sj_base.specs.Tree.{Tree, null, boolean, integer, decimal, string, list, object, Items, no_items, item, Members, no_members, member, IsValidTree}
use Rattle.sj_tape.specs.Listing.{Entry, null_entry, boolean_entry, integer_entry, decimal_entry, string_entry, list_entry, object_entry, listing}

-- the first n trees, as items
abbrev pub items_of : ℕ → List Tree → Items
items_of zero ts = no_items
items_of (suc n) [] = no_items
items_of (suc n) (t ∷ ts) = item t (items_of n ts)

-- the key that a tree of a string stands for
abbrev pub key_of : Tree → List ℕ
key_of null = []
key_of (boolean b) = []
key_of (integer n) = []
key_of (decimal literal) = []
key_of (string s) = s
key_of (list ts) = []
key_of (object ms) = []

-- the first n members, where keys and values alternate
abbrev pub members_of : ℕ → List Tree → Members
members_of zero ts = no_members
members_of (suc n) [] = no_members
members_of (suc n) (k ∷ []) = no_members
members_of (suc n) (k ∷ t ∷ ts) = member (key_of k) t (members_of n ts)

-- The trees that entries list, one after another. A list takes its items from the trees after it.
abbrev pub trees : List Entry → List Tree
trees [] = []
trees (null_entry ∷ es) = null ∷ trees es
trees (boolean_entry b ∷ es) = boolean b ∷ trees es
trees (integer_entry n ∷ es) = integer n ∷ trees es
trees (decimal_entry literal ∷ es) = decimal literal ∷ trees es
trees (string_entry s ∷ es) = string s ∷ trees es
trees (list_entry len count ∷ es) = list (items_of len (trees es)) ∷ drop len (trees es)
trees (object_entry len count ∷ es) = object (members_of len (trees es)) ∷ drop (len + len) (trees es)

-- the first of the trees, and null if there are none
abbrev pub first_tree : List Tree → Tree
first_tree [] = null
first_tree (t ∷ ts) = t

-- the first tree that entries list
unfoldable pub tree_of : List Entry → Tree
tree_of es = first_tree (trees es)

-- the first len items that entries list
unfoldable pub listed_items : ℕ → List Entry → Items
listed_items len es = items_of len (trees es)

-- the first len members that entries list
unfoldable pub listed_members : ℕ → List Entry → Members
listed_members len es = members_of len (trees es)

-- the first tree that entries list, and none if there are no entries
unfoldable pub listed_tree : List Entry → Option Tree
listed_tree [] = None
listed_tree (e ∷ es) = Some (tree_of (e ∷ es))

-- the listing of a tree, and no entries for none
abbrev pub option_listing : Option Tree → List Entry
option_listing None = []
option_listing (Some t) = listing t

-- the entries are the listing of one tree, or there are no entries
abbrev pub IsTape : List Entry → Type 0
IsTape es = option_listing (listed_tree es) ≡ es

-- the entries are the preorder of a valid tree
abbrev pub IsPreorder : List Entry → Type 0
IsPreorder es = (t : Tree) × IsValidTree t × (es ≡ listing t)
