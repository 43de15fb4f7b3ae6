-- Laws of listings, of the nodes that counts find, and of views.
use Rattle.std.specs.Prelude.{◌≡◌, ◌↔◌, ℕ, List, ◌++◌, None, IfSome, option_map, bytes_eq}
use Rattle.std.specs.List.{slice_get, find}
use Rattle.sj_base.specs.Containers.{scalar_in}
use Rattle.sj_base.specs.Keep.{IsKept}
use Rattle.sj_base.specs.Path.{Part, key, child}
use Rattle.sj_base.specs.Spelling.{Spells}
use Rattle.sj_base.specs.Tree.{Tree, IsValidTree, AreValidItems, AreValidMembers}
use Rattle.sj_reads.specs.Member.{Seen}
use Rattle.sj_tape.specs.ByName.{member_seen}
use Rattle.sj_tape.specs.Children.{member_nodes, item_nodes, item_runs, member_runs, child_nodes}
use Rattle.sj_tape.specs.Listing.{Entry, listing}
use Rattle.sj_tape.specs.Listed.{IsTape, tree_of}
use Rattle.sj_tape.specs.Nodes.{entries}
use Rattle.sj_tape.specs.Repeats.{repeated}
use Rattle.sj_tape.specs.Views.{nodes_tree, tape_tree, value_tree, array_items, object_members}
use Rattle.sj_tape.specs.declared.array.Array.{Array}
use Rattle.sj_tape.specs.declared.node.Node.{Node}
use Rattle.sj_tape.specs.declared.object.Object.{Object}
use Rattle.sj_tape.specs.declared.tape.Tape.{Tape}
use Rattle.sj_tape.specs.declared.value.Value.{Value}

-- Entries begin with the listing of at most one tree, and it ends at one place.
abbrev pub OneListing : Type 0
OneListing = (s t : Tree) (after_s after_t : List Entry) → listing s ++ after_s ≡ listing t ++ after_t → (s ≡ t) × (after_s ≡ after_t)

-- The tree of a listing is the tree that was listed.
abbrev pub ListingBack : Type 0
ListingBack = (t : Tree) → tree_of (listing t) ≡ t

-- The nodes that the counts find are the nodes of the child in the tree.
abbrev pub ChildrenByCounts : Type 0
ChildrenByCounts = (ns : List Node) (part : Part) → IsTape (entries ns) → option_map nodes_tree (child_nodes ns part) ≡ child (nodes_tree ns) part

-- Typed reads see the scalar of the member in the tree.
abbrev pub SeenMembers : Type 0
SeenMembers = (v : Value) (k : List ℕ) → option_map (λ (m : Seen). m.scalar) (member_seen v k) ≡ option_map scalar_in (child (value_tree v) (key k))

-- The item at an index is the item at that index among all items.
abbrev pub ItemsByPlace : Type 0
ItemsByPlace = (len : ℕ) (ns : List Node) (i : ℕ) → item_nodes len ns i ≡ slice_get (item_runs len ns) i

-- The member with a key is the first member with that key among all members.
abbrev pub MembersByKey : Type 0
MembersByKey = (len : ℕ) (ns : List Node) (k : List ℕ) → member_nodes len ns k ≡ option_map (λ p. p.1) (find (λ p. bytes_eq p.0 k) (member_runs len ns))

-- The trees of tapes and views are valid.
abbrev pub TapesAreValid : Type 0
TapesAreValid = (tape : Tape) → IfSome (tape_tree tape) IsValidTree

abbrev pub ValuesAreValid : Type 0
ValuesAreValid = (v : Value) → IsValidTree (value_tree v)

abbrev pub ArraysAreValid : Type 0
ArraysAreValid = (a : Array) → AreValidItems (array_items a)

abbrev pub ObjectsAreValid : Type 0
ObjectsAreValid = (o : Object) → AreValidMembers (object_members o)

-- The text that `print` gives for the tree of a view spells that tree.
abbrev pub ValuesPrintBack : (Tree → List ℕ) → Type 0
ValuesPrintBack print = (v : Value) → Spells (print (value_tree v)) (value_tree v)

-- A tree repeats no key exactly where `keep` leaves it as it is.
abbrev pub RepeatsAndKeep : Type 0
RepeatsAndKeep = (t : Tree) → (repeated t ≡ None) ↔ IsKept t
