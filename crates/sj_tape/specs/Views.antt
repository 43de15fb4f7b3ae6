-- What tapes, views and their iterators stand for.
use Rattle.std.specs.Prelude.{ℕ, List, [], ◌∷◌, Option, Result, option_map, map, Vec, vec_capacity}
use Rattle.std.specs.declared.alloc.Global.{Global}
use Rattle.sj_reads.specs.Views.{ok_map}
use Rattle.sj_base.specs.Tree.{Tree, Items, Members}
use Rattle.sj_base.specs.declared.static_node.ValueType.{ValueType}
use Rattle.sj_base.specs.declared.static_node.ValueType.TheVariants.{Null as null_type}
use Rattle.sj_base.specs.declared.fault.TryTypeError.{TryTypeError}
use Rattle.sj_tape.specs.Listed.{tree_of, listed_items, listed_members, listed_tree}
use Rattle.sj_tape.specs.Nodes.{entries, node_type}
use Rattle.sj_tape.specs.Children.{member_nodes, item_nodes, item_runs, member_runs}
use Rattle.sj_tape.specs.declared.array.Array.{Array}
use Rattle.sj_tape.specs.declared.array.Iter.{Iter as ArrayIter}
use Rattle.sj_tape.specs.declared.node.Node.{Node}
use Rattle.sj_tape.specs.declared.object.Object.{Object}
use Rattle.sj_tape.specs.declared.object.Iter.{Iter as ObjectIter}
use Rattle.sj_tape.specs.declared.object.Keys.{Keys}
use Rattle.sj_tape.specs.declared.object.Values.{Values}
use Rattle.sj_tape.specs.declared.tape.Tape.{Tape}
use Rattle.sj_tape.specs.declared.value.Value.{Value}

abbrev pub tape_nodes : Tape → List Node
tape_nodes t = t.nodes.items

-- the vector of its nodes
abbrev pub tape_vector : Tape → Vec Node Global
tape_vector t = t.nodes

-- the number of nodes for which there is room
abbrev pub tape_room : Tape → ℕ
tape_room t = vec_capacity (tape_vector t)

-- none if the tape is empty
abbrev pub tape_tree : Tape → Option Tree
tape_tree t = listed_tree (entries (tape_nodes t))

abbrev pub value_nodes : Value → List Node
value_nodes v = v.nodes.now

abbrev pub value_tree : Value → Tree
value_tree v = tree_of (entries (value_nodes v))

-- the type of the first value, and null if there are no nodes
abbrev pub first_type : List Node → ValueType
first_type [] = null_type
first_type (n ∷ ns) = node_type n

-- the tree of the first value, and null if there are no nodes
abbrev pub nodes_tree : List Node → Tree
nodes_tree ns = tree_of (entries ns)

abbrev pub value_kind : Value → ValueType
value_kind v = first_type (value_nodes v)

abbrev pub array_nodes : Array → List Node
array_nodes a = a.nodes.now

abbrev pub array_items : Array → Items
array_items a = listed_items a.len (entries (array_nodes a))

-- the number of items, and their nodes
abbrev pub array_part_of : Array → ℕ × List Node
array_part_of a = (a.len, array_nodes a)

-- the nodes of the item at index i
abbrev pub array_item : Array → ℕ → Option (List Node)
array_item a i = item_nodes a.len (array_nodes a) i

-- the nodes of each item
abbrev pub array_runs : Array → List (List Node)
array_runs a = item_runs a.len (array_nodes a)

abbrev pub object_nodes : Object → List Node
object_nodes o = o.nodes.now

abbrev pub object_members : Object → Members
object_members o = listed_members o.len (entries (object_nodes o))

-- the number of members, and their nodes
abbrev pub object_part_of : Object → ℕ × List Node
object_part_of o = (o.len, object_nodes o)

-- the nodes of the value of the first member with key k
abbrev pub object_member : Object → List ℕ → Option (List Node)
object_member o k = member_nodes o.len (object_nodes o) k

-- the key and the nodes of the value of each member
abbrev pub object_runs : Object → List (List ℕ × List Node)
object_runs o = member_runs o.len (object_nodes o)

-- a key with the tree of its value
abbrev pub pair_tree : List ℕ × List Node → List ℕ × Tree
pair_tree p = (p.0, nodes_tree p.1)

-- results, with nodes or trees in place of views
abbrev pub ok_items : Result Array TryTypeError → Result Items TryTypeError
ok_items r = ok_map array_items r

abbrev pub ok_members : Result Object TryTypeError → Result Members TryTypeError
ok_members r = ok_map object_members r

abbrev pub found_nodes : Result (Option Value) TryTypeError → Result (Option (List Node)) TryTypeError
found_nodes r = ok_map (option_map value_nodes) r

abbrev pub found_tree : Result (Option Value) TryTypeError → Result (Option Tree) TryTypeError
found_tree r = ok_map (option_map value_tree) r

abbrev pub found_items : Result (Option Array) TryTypeError → Result (Option Items) TryTypeError
found_items r = ok_map (option_map array_items) r

abbrev pub found_members : Result (Option Object) TryTypeError → Result (Option Members) TryTypeError
found_members r = ok_map (option_map object_members) r

-- what an iterator has left
abbrev pub items_left : ArrayIter → List (List Node)
items_left it = array_runs it.rest

abbrev pub pairs_left : ObjectIter → List (List ℕ × List Node)
pairs_left it = object_runs it.rest

abbrev pub keys_left : Keys → List (List ℕ)
keys_left it = map (λ p. p.0) (pairs_left it.members)

abbrev pub values_left : Values → List (List Node)
values_left it = map (λ p. p.1) (pairs_left it.members)
