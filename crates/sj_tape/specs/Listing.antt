-- The preorder of a tree: an entry for each value, and an entry for each key before the value of its member.
use Rattle.std.specs.Prelude.{ℕ, ℤ, Bool, List, [], ◌∷◌, ◌++◌, length}
use Rattle.sj_base.specs.Containers.{items_len, members_len}
use Rattle.sj_base.specs.Tree.{Tree, null, boolean, integer, decimal, string, list, object, Items, no_items, item, Members, no_members, member}

pub data Entry : Type 0 where
  null_entry : Entry
  boolean_entry : Bool → Entry
  integer_entry : ℤ → Entry
  decimal_entry : List ℕ → Entry
  string_entry : List ℕ → Entry  -- a string or a key
  list_entry : ℕ → ℕ → Entry  -- the number of items, and of entries beneath
  object_entry : ℕ → ℕ → Entry  -- the number of members, and of entries beneath

abbrev mutual
  pub listing : Tree → List Entry
  listing null = null_entry ∷ []
  listing (boolean b) = boolean_entry b ∷ []
  listing (integer n) = integer_entry n ∷ []
  listing (decimal literal) = decimal_entry literal ∷ []
  listing (string s) = string_entry s ∷ []
  listing (list ts) = list_entry (items_len ts) (length (items_listing ts)) ∷ items_listing ts
  listing (object ms) = object_entry (members_len ms) (length (members_listing ms)) ∷ members_listing ms

  pub items_listing : Items → List Entry
  items_listing no_items = []
  items_listing (item t ts) = listing t ++ items_listing ts

  pub members_listing : Members → List Entry
  members_listing no_members = []
  members_listing (member k t ms) = string_entry k ∷ (listing t ++ members_listing ms)
