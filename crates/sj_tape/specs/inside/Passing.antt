-- Where a tree, the items of an array or the members of an object end in a list of entries. `Some rest` says that
-- they stand at the front, with `rest` after them; `None` says that they don't stand there.
use Rattle.std.specs.Prelude.{◌≡◌, ◌≢◌, ℕ, Bool, true, false, List, ◌∷◌, ◌++◌, Option, Some, None, IsUtf8}
use Rattle.sj_base.specs.Tree.{Tree, Items, Members, IsValidTree, AreValidItems, AreValidMembers}
use Rattle.sj_base.specs.Containers.{items_len, members_len}
use Rattle.sj_tape.specs.Listing.{Entry, string_entry, listing, items_listing, members_listing}

abbrev pub PassesKey : List Entry → Option (List Entry) → Type 0
PassesKey es (Some rest) = (k : List ℕ) × IsUtf8 k × (es ≡ string_entry k ∷ rest)
PassesKey es None = (k : List ℕ) (rest : List Entry) → es ≢ string_entry k ∷ rest

abbrev pub PassesTree : List Entry → Option (List Entry) → Type 0
PassesTree es (Some rest) = (t : Tree) × IsValidTree t × (es ≡ listing t ++ rest)
PassesTree es None = (t : Tree) (rest : List Entry) → es ≢ listing t ++ rest

-- the contents of a container: members where there are keys, items otherwise
abbrev pub Contents : Bool → Type 0
Contents true = Members
Contents false = Items

abbrev pub AreValid : (has_keys : Bool) → Contents has_keys → Type 0
AreValid true ms = AreValidMembers ms
AreValid false ts = AreValidItems ts

abbrev pub contents_len : (has_keys : Bool) → Contents has_keys → ℕ
contents_len true ms = members_len ms
contents_len false ts = items_len ts

abbrev pub contents_listing : (has_keys : Bool) → Contents has_keys → List Entry
contents_listing true ms = members_listing ms
contents_listing false ts = items_listing ts

abbrev pub PassesContents : (has_keys : Bool) → ℕ → List Entry → Option (List Entry) → Type 0
PassesContents has_keys len es (Some rest) = (c : Contents has_keys) × AreValid has_keys c × (contents_len has_keys c ≡ len) × (es ≡ contents_listing has_keys c ++ rest)
PassesContents has_keys len es None = (c : Contents has_keys) (rest : List Entry) → contents_len has_keys c ≡ len → es ≢ contents_listing has_keys c ++ rest

-- one item, or one member with its key
abbrev pub PassesPart : Bool → List Entry → Option (List Entry) → Type 0
PassesPart true es (Some rest) = (k : List ℕ) × (t : Tree) × IsUtf8 k × IsValidTree t × (es ≡ string_entry k ∷ (listing t ++ rest))
PassesPart true es None = (k : List ℕ) (t : Tree) (rest : List Entry) → es ≢ string_entry k ∷ (listing t ++ rest)
PassesPart false es r = PassesTree es r
