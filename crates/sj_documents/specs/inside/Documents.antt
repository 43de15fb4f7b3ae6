-- The edits of documents, what is appended of them, and the text of items that are left.
use Rattle.std.specs.Prelude.{◌≡◌, ℕ, Bool, true, false, List, [], ◌∷◌, ◌++◌, map, Option, Some, None, option_map, ok_or, is_some, Result, Ok, Err, codes}
use Rattle.std.specs.Borrow.{Bor}
use Rattle.std.specs.Io.{StartsWith}
use Rattle.std.specs.Iterator.{Drains}
use Rattle.std.specs.Option.{unwrap_or}
use Rattle.sj_base.specs.Containers.{members_in}
use Rattle.sj_base.specs.Tree.{Tree, Items, no_items, item, Members, string, list}
use Rattle.sj_base.specs.Scalar.{scalar_tree}
use Rattle.sj_base.specs.declared.scalar.Scalar.{Scalar}
use Rattle.sj_documents.specs.declared.edit.Write.{Write}
use Rattle.sj_documents.specs.declared.edit.Write.TheVariants.{Insert, Remove, Push, Pop, Set}
use Rattle.sj_documents.specs.declared.refusal.Refusal.{Refusal}
use Rattle.sj_documents.specs.declared.refusal.Refusal.TheVariants.{NoSuchPath, NotAnObject, NotAnArray, NotAContainer, TooDeep}
use Rattle.sj_scripts.specs.declared.memory_or.MemoryOr.{MemoryOr}
use Rattle.sj_scripts.specs.declared.memory_or.MemoryOr.TheVariants.{Memory, Refused}
use Rattle.std.specs.declared.alloc.AllocError.{AllocError}
use Rattle.sj_base.specs.declared.fault.AccessError.{AccessError}
use Rattle.sj_base.specs.Text.{text, items_text, more_items_text}
use Rattle.sj_scripts.specs.inside.Output.{AppendsOrGrows}
use Rattle.sj_scripts.specs.Values.{owned_tree}
use Rattle.sj_documents.specs.Inverse.{Change, drop_item, changed, insertion_back, removal_back, popping_back, setting_back}
use Rattle.sj_documents.specs.Step.{Word, Rewrite, reply_of, insertion, removal, pushing, popping, setting, key_items}

-- the text of the items from the first of them on, or from another
abbrev pub items_left : Bool → Items → List ℕ
items_left true ts = items_text ts
items_left false ts = more_items_text ts

-- the word of a refusal
abbrev pub refusal_name : Refusal → Word
refusal_name NoSuchPath = codes "NoSuchPath"
refusal_name NotAnObject = codes "NotAnObject"
refusal_name NotAnArray = codes "NotAnArray"
refusal_name NotAContainer = codes "NotAContainer"
refusal_name TooDeep = codes "TooDeep"

-- what was read, or the refusal, against the definition
abbrev pub GivesReply : {A : Type 0} → (A → Tree) → Result A Refusal → Result Tree Word → Type 0
GivesReply view (Ok x) read = read ≡ Ok (view x)
GivesReply view (Err why) read = read ≡ Err (refusal_name why)

-- the reply of a scalar or of a refusal
abbrev pub reply_view : Result Scalar Refusal → Tree
reply_view (Ok s) = scalar_tree s
reply_view (Err why) = string (refusal_name why)

-- the rewrite of a write, and the change that takes it back, by the value that it found
abbrev pub rewrite_of : Write → Rewrite
rewrite_of (Insert k v fits) = insertion fits k.now (owned_tree v.now)
rewrite_of (Remove k place) = removal k.now
rewrite_of (Push v fits) = pushing fits (owned_tree v.now)
rewrite_of Pop = popping
rewrite_of (Set v fits) = setting fits (owned_tree v.now)

abbrev pub back_of : Write → Option Tree → Change
back_of (Insert k v fits) found = insertion_back k.now found
back_of (Remove k place) found = removal_back place k.now found
back_of (Push v fits) found = drop_item
back_of Pop found = popping_back found
back_of (Set v fits) found = setting_back found

-- A change as a rewrite that finds nothing. Any word would do where it can't be made.
abbrev pub undoing : Change → Rewrite
undoing change part = ok_or (option_map (λ t. (reply_of None, t)) (changed change part)) (codes "NoSuchPath")

-- whether an edit took a value out
abbrev pub is_taken : {A : Type 0} → Result (Option A) AccessError → Bool
is_taken (Ok found) = is_some found
is_taken (Err e) = false

-- What a change leaves of the tree t: whether it can be made, and the tree after it. Lack of memory leaves t.
abbrev pub IsChanged : {E : Type 0} → Result Bool E → Tree → Tree → Change → Type 0
IsChanged (Ok is_made) t u change = (is_made ≡ is_some (changed change t)) × (u ≡ unwrap_or (changed change t) t)
IsChanged (Err e) t u change = u ≡ t

-- What an edit of the tree t leaves: what it replaced or took out and the new tree, or a refusal and the old tree. Lack of
-- memory leaves the old tree.
abbrev pub IsEdited : {V : Type 0} → (V → Tree) → Result (Option V) (MemoryOr Refusal) → Tree → Tree → Result (Tree × Tree) Word → Type 0
IsEdited tree (Ok found) t u w = w ≡ Ok (reply_of (option_map tree found), u)
IsEdited tree (Err (Refused why)) t u w = (w ≡ Err (refusal_name why)) × (u ≡ t)
IsEdited tree (Err Memory) t u w = u ≡ t

-- the same of two documents, of which the second is left of the first
abbrev pub IsEditBy : {V : Type 0} → (V → Tree) → Result (Option V) (MemoryOr Refusal) → V → V → Rewrite → Type 0
IsEditBy tree result old new rewrite = IsEdited tree result (tree old) (tree new) (rewrite (tree old))

abbrev pub IsChangeBy : {V E : Type 0} → (V → Tree) → Result Bool E → V → V → Change → Type 0
IsChangeBy tree result old new change = IsChanged result (tree old) (tree new) change

-- What is appended of an object's keys: an array of them, or a part of it before an error. Of another tree nothing is.
abbrev pub PutsKeys : Tree → Option (Result Unit AllocError) → List ℕ → List ℕ → Type 0
PutsKeys t (Some r) old new = (ms : Members) × (members_in t ≡ Some ms) × AppendsOrGrows r old new (text (list (key_items ms)))
PutsKeys t None old new = (members_in t ≡ None) × (new ≡ old)

-- keys as the items of an array
abbrev pub key_strings : List (List ℕ) → Items
key_strings [] = no_items
key_strings (k ∷ ks) = item (string k) (key_strings ks)

-- What is appended of the keys that an iterator gives: an array of them, or a part of it before an error.
abbrev pub PutsEach : {S E : Type 0} → (S → Option (Bor (List ℕ)) → S → Type 0) → S → Result Unit E → List ℕ → List ℕ → Type 0
PutsEach steps s (Ok done) old new = (ks : List (Bor (List ℕ))) × Drains steps s ks × (new ≡ old ++ text (list (key_strings (map (λ k. k.now) ks))))
PutsEach steps s (Err e) old new = StartsWith new old
