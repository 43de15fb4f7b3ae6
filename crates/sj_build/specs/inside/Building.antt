-- A document that is built from the last node of its tape to the first: a stack has what is built of the nodes behind.
use Rattle.std.specs.Prelude.{ℕ, zero, suc, Bool, true, false, List, [], ◌∷◌, Option, Some, None, drop, reverse}
use Rattle.sj_base.specs.Tree.{Tree, null, boolean, integer, decimal, string, list, object, Items, no_items, item, Members, no_members}
use Rattle.sj_base.specs.Scalar.{static_tree, decimal_text}
use Rattle.sj_object.specs.Members.{member_pairs}
use Rattle.sj_object.specs.declared.members.Members.{Members as Pairs}
use Rattle.sj_tape.specs.Listing.{Entry, null_entry, boolean_entry, integer_entry, decimal_entry, string_entry, list_entry, object_entry}
use Rattle.sj_tape.specs.declared.node.Node.{Node}
use Rattle.sj_tape.specs.declared.node.Node.TheVariants.{String, Object, Array, Static, Decimal}
use Rattle.sj_build.specs.Trees.{members_of, on_values}
use Rattle.sj_build.specs.inside.Kept.{add_member}
use Rattle.sj_build.specs.declared.build.Parts.{Parts}

-- what a part of the stack shows: a text, which is a key or a string, or a tree
pub data Shown : Type 0 where
  text : List ℕ → Shown
  built : Tree → Shown

abbrev pub shown_tree : Shown → Tree
shown_tree (text s) = string s
shown_tree (built t) = t

-- the part on top, and null where there is none
abbrev pub first_part : List Shown → Shown
first_part [] = built null
first_part (p ∷ ps) = p

-- the text on top, if one is there
abbrev pub shown_key : List Shown → Option (List ℕ)
shown_key [] = None
shown_key (text k ∷ ps) = Some k
shown_key (built t ∷ ps) = None

-- that many items
abbrev pub items_from : ℕ → List Shown → Items
items_from zero ps = no_items
items_from (suc n) ps = item (shown_tree (first_part ps)) (items_from n (drop 1 ps))

abbrev pub list_from : ℕ → List Shown → Tree
list_from n ps = list (items_from n ps)

-- the parts behind that many pairs
abbrev pub drop_pairs : ℕ → List Shown → List Shown
drop_pairs zero ps = ps
drop_pairs (suc n) ps = drop_pairs n (drop 1 (drop 1 ps))

-- the members with the first pair, a text and a value, added, unless there is one with its key
abbrev pub add_pair : Members → List Shown → Members
add_pair ms [] = ms
add_pair ms (text k ∷ ps) = add_member ms k (shown_tree (first_part ps))
add_pair ms (built t ∷ ps) = ms

-- the members with that many pairs added
abbrev pub add_pairs : ℕ → Members → List Shown → Members
add_pairs zero ms ps = ms
add_pairs (suc n) ms ps = add_pairs n (add_pair ms ps) (drop 1 (drop 1 ps))

-- The first of each key is kept.
abbrev pub object_from : ℕ → List Shown → Tree
object_from n ps = object (add_pairs n no_members ps)

-- the stack with one entry more before it: a container takes its parts from the stack
abbrev pub place : Entry → List Shown → List Shown
place null_entry ps = built null ∷ ps
place (boolean_entry b) ps = built (boolean b) ∷ ps
place (integer_entry n) ps = built (integer n) ∷ ps
place (decimal_entry literal) ps = built (decimal literal) ∷ ps
place (string_entry s) ps = text s ∷ ps
place (list_entry len count) ps = built (list_from len ps) ∷ drop len ps
place (object_entry len count) ps = built (object_from len ps) ∷ drop_pairs len ps

-- the stack with all these entries before it
abbrev pub placed : List Entry → List Shown → List Shown
placed [] ps = ps
placed (e ∷ es) ps = place e (placed es ps)

abbrev pub is_container : Node → Bool
is_container (String s) = false
is_container (Static s) = false
is_container (Decimal d) = false
is_container (Array len count) = true
is_container (Object len count) = true

abbrev pub first_tree : {V : Type 0} → (V → Tree) → List V → Tree
first_tree tree [] = null
first_tree tree (v ∷ vs) = tree v

-- what a node shows: a container the first of the values that are built
abbrev pub shown : {V : Type 0} → (V → Tree) → Node → List V → Shown
shown tree (String s) vs = text s.now
shown tree (Static s) vs = built (static_tree s)
shown tree (Decimal d) vs = built (decimal (decimal_text d))
shown tree (Array len count) vs = built (first_tree tree vs)
shown tree (Object len count) vs = built (first_tree tree vs)

-- the values that are left for the nodes behind it
abbrev pub behind : {V : Type 0} → Node → List V → List V
behind (String s) vs = vs
behind (Static s) vs = vs
behind (Decimal d) vs = vs
behind (Array len count) vs = drop 1 vs
behind (Object len count) vs = drop 1 vs

abbrev pub parts_shown : {V : Type 0} → (V → Tree) → List Node → List V → List Shown
parts_shown tree [] vs = []
parts_shown tree (n ∷ ns) vs = shown tree n vs ∷ parts_shown tree ns (behind n vs)

-- the stack, from its top down
abbrev pub stack : {V : Type 0} → (V → Tree) → Parts V → List Shown
stack tree parts = parts_shown tree (reverse parts.nodes.items) (reverse parts.built.items)

-- the members that are put together
abbrev pub members_shown : {K V : Type 0} → (K → List ℕ) → (V → Tree) → Pairs K V → Members
members_shown key_text tree pairs = members_of key_text (on_values tree (member_pairs pairs))
