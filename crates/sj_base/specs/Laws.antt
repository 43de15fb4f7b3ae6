-- Laws of spelling and printing, of kept trees, paths and edits, and of trees that are alike.
use Rattle.std.specs.Prelude.{◌≡◌, ℕ, ◌+◌, ◌≤◌, max, ◌==◌, ◌&&◌, ◌↔◌, true, List, ◌∷◌, length, Some, option_map, IsUtf8}
use Rattle.std.specs.List.{AllByRecursion}
use Rattle.sj_base.specs.Tree.{Tree, list, object, Items, Members, IsValidTree, depth}
use Rattle.sj_base.specs.Containers.{members_len}
use Rattle.sj_base.specs.Spelling.{Spells}
use Rattle.sj_base.specs.Keep.{keep, IsKept}
use Rattle.sj_base.specs.Path.{Part, at, put}
use Rattle.sj_base.specs.Alike.{alike, alike_members}
use Rattle.sj_base.specs.Edit.{put_member, drop_member, push_item, last_item, pop_item}
use Rattle.sj_base.specs.Text.{text}
use Rattle.sj_base.specs.Layout.{laid_out, inside, opened_list, opened_object, rest_text, item_texts, member_texts}
use Rattle.sj_base.specs.declared.layout.Layout.{Layout}

-- No bytes spell two trees.
abbrev pub OneMeaning : Type 0
OneMeaning = (bytes : List ℕ) (s t : Tree) → Spells bytes s → Spells bytes t → s ≡ t

-- A printed text spells the tree that was printed.
abbrev pub PrintsBack : (Tree → List ℕ) → Type 0
PrintsBack print = (t : Tree) → IsValidTree t → Spells (print t) t

-- Two valid trees have the same text exactly if they are equal.
abbrev pub OneText : Type 0
OneText = (s t : Tree) → IsValidTree s → IsValidTree t → (text s ≡ text t) ↔ (s ≡ t)

-- Every tree that is spelled is valid.
abbrev pub SpellsTrees : Type 0
SpellsTrees = (bytes : List ℕ) (t : Tree) → Spells bytes t → IsValidTree t

-- Bytes that spell a tree are UTF-8.
abbrev pub SpelledInUtf8 : Type 0
SpelledInUtf8 = (bytes : List ℕ) (t : Tree) → Spells bytes t → IsUtf8 bytes

-- The printed text of a valid tree is UTF-8.
abbrev pub PrintsUtf8 : (Tree → List ℕ) → Type 0
PrintsUtf8 print = (t : Tree) → IsValidTree t → IsUtf8 (print t)

-- A compact text has no byte below 0x20, so no line feed.
abbrev pub OneLine : Type 0
OneLine = (t : Tree) → IsValidTree t → AllByRecursion (λ b. 0x20 ≤ b) (text t)

-- The pieces that are printed of a list or an object make up its text.
abbrev pub LaysOutLists : Type 0
LaysOutLists = (y : Layout) (ts : Items) → laid_out y (list ts) ≡ 0x5b ∷ rest_text (opened_list y) (item_texts (inside y) ts)

abbrev pub LaysOutObjects : Type 0
LaysOutObjects = (y : Layout) (ms : Members) → laid_out y (object ms) ≡ 0x7b ∷ rest_text (opened_object y) (member_texts (inside y) ms)

-- `keep` of a tree is kept.
abbrev pub KeepsOnce : Type 0
KeepsOnce = (t : Tree) → IsKept (keep t)

-- A path selects in `keep` of a tree `keep` of the part that it selects in the tree, and nothing exactly if it selects
-- nothing there.
abbrev pub KeepsParts : Type 0
KeepsParts = (t : Tree) (path : List Part) → at (keep t) path ≡ option_map keep (at t path)

-- A part may be replaced before `keep` or after it.
abbrev pub KeepsPut : Type 0
KeepsPut = (t : Tree) (path : List Part) (new : Tree) → keep (put t path new) ≡ put (keep t) path (keep new)

-- P holds of each part of a tree of which it holds.
abbrev pub HoldsOfParts : (Tree → Type 0) → Type 0
HoldsOfParts P = (t : Tree) (path : List Part) (part : Tree) → P t → at t path ≡ Some part → P part

-- P holds of the last item of a list of which it holds.
abbrev pub HoldsOfLast : (Tree → Type 0) → Type 0
HoldsOfLast P = (ts : Items) (last : Tree) → P (list ts) → last_item ts ≡ Some last → P last

-- P still holds of a tree after a part is replaced by a tree of which it holds.
abbrev pub StaysWhenPut : (Tree → Type 0) → Type 0
StaysWhenPut P = (t : Tree) (path : List Part) (new : Tree) → P t → P new → P (put t path new)

-- P still holds of an object after a member is dropped.
abbrev pub StaysWhenDropped : (Tree → Type 0) → Type 0
StaysWhenDropped P = (ms : Members) (k : List ℕ) → P (object ms) → P (object (drop_member ms k))

-- P still holds of a list after a tree of which it holds is pushed.
abbrev pub StaysWhenPushed : (Tree → Type 0) → Type 0
StaysWhenPushed P = (ts : Items) (new : Tree) → P (list ts) → P new → P (list (push_item ts new))

-- P still holds of a list after the last item is popped.
abbrev pub StaysWhenPopped : (Tree → Type 0) → Type 0
StaysWhenPopped P = (ts : Items) → P (list ts) → P (list (pop_item ts))

-- A kept object stays kept after a kept tree is put in it.
abbrev pub KeptWithMember : Type 0
KeptWithMember = (ms : Members) (k : List ℕ) (new : Tree) → IsKept (object ms) → IsKept new → IsKept (object (put_member ms k new))

-- A valid object stays valid after a valid tree is put in it under a key in UTF-8.
abbrev pub ValidWithMember : Type 0
ValidWithMember = (ms : Members) (k : List ℕ) (new : Tree) → IsValidTree (object ms) → IsUtf8 k → IsValidTree new → IsValidTree (object (put_member ms k new))

-- `keep` of a valid tree is valid.
abbrev pub ValidWhenKept : Type 0
ValidWhenKept = (t : Tree) → IsValidTree t → IsValidTree (keep t)

-- `keep` of a tree is no deeper than the tree.
abbrev pub DepthWhenKept : Type 0
DepthWhenKept = (t : Tree) → depth (keep t) ≤ depth t

-- The steps of a path and the depth of the part that it selects are together at most the depth of the tree.
abbrev pub DepthOfParts : Type 0
DepthOfParts = (t : Tree) (path : List Part) (part : Tree) → at t path ≡ Some part → length path + depth part ≤ depth t

-- A tree with a new part is no deeper than the tree was, or else than the steps of the path and the new part together.
abbrev pub DepthWhenPut : Type 0
DepthWhenPut = (t : Tree) (path : List Part) (new : Tree) → depth (put t path new) ≤ max (depth t) (length path + depth new)

-- An object with a new member is no deeper than it was, or else than the new member, which stands one level below it.
abbrev pub DepthWithMember : Type 0
DepthWithMember = (ms : Members) (k : List ℕ) (new : Tree) → depth (object (put_member ms k new)) ≤ max (depth (object ms)) (1 + depth new)

-- A list with a new item is as deep as it was, or as the new item makes it.
abbrev pub DepthWhenPushed : Type 0
DepthWhenPushed = (ts : Items) (new : Tree) → depth (list (push_item ts new)) ≡ max (depth (list ts)) (1 + depth new)

-- Nothing gets deeper if a member is dropped or the last item popped.
abbrev pub DepthWhenDropped : Type 0
DepthWhenDropped = (ms : Members) (k : List ℕ) → depth (object (drop_member ms k)) ≤ depth (object ms)

abbrev pub DepthWhenPopped : Type 0
DepthWhenPopped = (ts : Items) → depth (list (pop_item ts)) ≤ depth (list ts)

-- A kept tree is alike to itself.
abbrev pub AlikeToItself : Type 0
AlikeToItself = (t : Tree) → IsKept t → alike t t ≡ true

-- Of two kept trees each is alike to the other, or neither is.
abbrev pub AlikeBothWays : Type 0
AlikeBothWays = (s t : Tree) → IsKept s → IsKept t → alike s t ≡ alike t s

-- Trees that are alike to one tree in turn are alike. Here they need not be kept.
abbrev pub AlikeInTurn : Type 0
AlikeInTurn = (s t u : Tree) → alike s t ≡ true → alike t u ≡ true → alike s u ≡ true

-- Two kept objects are alike exactly if they have equally many members, and each member of the first has an alike member
-- under its key in the second.
abbrev pub AlikeByCount : Type 0
AlikeByCount = (ms ns : Members) → IsKept (object ms) → IsKept (object ns) → alike (object ms) (object ns) ≡ (members_len ms == members_len ns && alike_members ms ns)
