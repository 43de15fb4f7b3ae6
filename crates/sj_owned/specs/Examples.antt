-- Worked values. Keys and literals are their texts.
use Rattle.std.specs.Prelude.{◌≡◌, refl, ℕ, List, pos, negsuc, [], ◌∷◌, Some, None, true, codes}
use Rattle.std.specs.Fmt.{digits}
use Rattle.sj_base.specs.Containers.{members_in}
use Rattle.sj_base.specs.Tree.{Tree, null, integer, decimal, string, list, object, no_items, item, no_members, member}
use Rattle.sj_base.specs.declared.fault.AccessError.TheVariants.{Memory, NotAnObject}
use Rattle.sj_base.specs.declared.static_node.StaticNode.TheVariants.{I64}
use Rattle.sj_base.specs.declared.static_node.ValueType.TheVariants as types
use Rattle.sj_object.specs.declared.entry.Entry.{Entry}
use Rattle.sj_owned.specs.Compare.{kept_alike}
use Rattle.sj_owned.specs.Copies.{static_leaf, text_leaf, leaves_step}
use Rattle.sj_owned.specs.Display.{shown}
use Rattle.sj_owned.specs.Edits.{with_member, without_member, with_item, without_last, refusal, last_of, before_last}
use Rattle.sj_owned.specs.From.{all_put}
use Rattle.sj_owned.specs.Views.{tree_step, kind_layer}
use Rattle.sj_owned.specs.declared.value.Value.TheOpen.{Value-F}

abbrev text : List ℕ → List ℕ
text s = s

-- a pair, of which an object is made
abbrev pair : List ℕ → ℕ → Entry (List ℕ) ℕ
pair k v = record { key = k; value = v }

-- {"a":1,"b":2}, and the same in the other order
abbrev members : Tree
members = object (member (codes "a") (integer (pos 1)) (member (codes "b") (integer (pos 2)) no_members))

abbrev other_order : Tree
other_order = object (member (codes "b") (integer (pos 2)) (member (codes "a") (integer (pos 1)) no_members))

-- {"a":1,"b":2,"a":3}
abbrev repeats : Tree
repeats = object (member (codes "a") (integer (pos 1)) (member (codes "b") (integer (pos 2)) (member (codes "a") (integer (pos 3)) no_members)))

-- the members of a document {"a":v}, one level
abbrev one_member : {A : Type 0} → A → List (Entry (List ℕ) A)
one_member v = record { key = codes "a"; value = v } ∷ []

last_value_in_first_place : all_put text [] (pair (codes "a") 1 ∷ pair (codes "b") 2 ∷ pair (codes "a") 3 ∷ []) ≡ pair (codes "a") 3 ∷ pair (codes "b") 2 ∷ []
last_value_in_first_place = refl

replaced : with_member members (codes "a") null ≡ Some (object (member (codes "a") null (member (codes "b") (integer (pos 2)) no_members)))
replaced = refl

put_last : with_member (object no_members) (codes "a") null ≡ Some (object (member (codes "a") null no_members))
put_last = refl

no_object : with_member (list no_items) (codes "a") null ≡ None
no_object = refl

closed_up : without_member members (codes "a") ≡ Some (object (member (codes "b") (integer (pos 2)) no_members))
closed_up = refl

nothing_removed : without_member members (codes "c") ≡ Some members
nothing_removed = refl

appended : with_item (list (item null no_items)) members ≡ Some (list (item null (item members no_items)))
appended = refl

popped : without_last (list (item null (item members no_items))) ≡ Some (list (item null no_items))
popped = refl

nothing_popped : without_last (list no_items) ≡ Some (list no_items)
nothing_popped = refl

no_list : without_last members ≡ None
no_list = refl

wrong_kind : refusal NotAnObject (members_in null) ≡ NotAnObject
wrong_kind = refl

no_memory : refusal NotAnObject (members_in members) ≡ Memory
no_memory = refl

last_item : last_of {A = ℕ} (1 ∷ 2 ∷ []) ≡ Some 2
last_item = refl

items_before_it : before_last {A = ℕ} (1 ∷ 2 ∷ []) ≡ 1 ∷ []
items_before_it = refl

no_last_item : last_of {A = ℕ} [] ≡ None
no_last_item = refl

equal_as_maps : kept_alike members other_order ≡ true
equal_as_maps = refl

repeats_dropped : kept_alike repeats members ≡ true
repeats_dropped = refl

string_shown_as_it_is : shown (string (codes "a\"b")) ≡ codes "a\"b"
string_shown_as_it_is = refl

literal_shown : shown (decimal (codes "1.50")) ≡ codes "1.50"
literal_shown = refl

integer_shown : shown (integer (negsuc 4)) ≡ codes "-5"
unfolding digits
integer_shown = refl

object_shown : shown members ≡ codes "{\"a\":1,\"b\":2}"
unfolding digits
object_shown = refl

tree_of_integer : tree_step text text (Value-F.Static (I64 (negsuc 4))) ≡ integer (negsuc 4)
tree_of_integer = refl

tree_of_object : tree_step text text (Value-F.Object (one_member null)) ≡ object (member (codes "a") null no_members)
tree_of_object = refl

type_by_carrier : kind_layer {K = List ℕ} {D = List ℕ} {A = Tree} (Value-F.Static (I64 (pos 5))) ≡ types.I64
type_by_carrier = refl

leaf_in_its_carrier : leaves_step text text (Value-F.Static (I64 (pos 5))) ≡ static_leaf (I64 (pos 5)) ∷ []
leaf_in_its_carrier = refl

key_before_its_value : leaves_step text text (Value-F.Object (one_member (static_leaf (I64 (pos 5)) ∷ []))) ≡ text_leaf (codes "a") ∷ static_leaf (I64 (pos 5)) ∷ []
key_before_its_value = refl
