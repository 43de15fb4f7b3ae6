-- Parts of lazy values, and what their iterators have left.
use Rattle.std.specs.Prelude.{ℕ, List, Option, Result, ok_or, map, option_map, slice_get}
use Rattle.std.specs.Cow.{cow_str_bytes}
use Rattle.std.specs.Slice.Iter.{iter_rest}
use Rattle.std.specs.declared.alloc.Global.{Global}
use Rattle.std.specs.declared.borrow.CowStr.{CowStr}
use Rattle.sj_base.specs.Path.{Part, key, place}
use Rattle.sj_base.specs.Scalar.{decimal_cow_text}
use Rattle.sj_base.specs.Tree.{Tree, Items, Members}
use Rattle.sj_base.specs.declared.fault.TryTypeError.{TryTypeError}
use Rattle.sj_base.specs.declared.static_node.ValueType.TheVariants.{Array as array_type, Object as object_type}
use Rattle.sj_object.specs.Iterators as pairs
use Rattle.sj_object.specs.Pairs.{value_at}
use Rattle.sj_object.specs.declared.entry.Entry.{Entry}
use Rattle.sj_owned.specs.Parts.{member_of, item_of}
use Rattle.sj_owned.specs.Views.{items_view, members_view, items_inside, members_inside}
use Rattle.sj_reads.specs.Reads.{mismatch}
use Rattle.sj_tape.specs.Children.{child_nodes, member_nodes, item_nodes, array_part, object_part}
use Rattle.sj_tape.specs.Views as tape
use Rattle.sj_tape.specs.declared.node.Node.{Node}
use Rattle.sj_lazy.specs.Contents.{Document, Contents, nodes, document}
use Rattle.sj_lazy.specs.Views.{contents_tree, contents_kind}
use Rattle.sj_lazy.specs.declared.array.Array.{Array}
use Rattle.sj_lazy.specs.declared.array.Array.TheVariants as array
use Rattle.sj_lazy.specs.declared.array.Iter.{Iter as ArrayIter}
use Rattle.sj_lazy.specs.declared.array.Iter.TheVariants as array_iter
use Rattle.sj_lazy.specs.declared.object.Iter.{Iter as ObjectIter}
use Rattle.sj_lazy.specs.declared.object.Iter.TheVariants as object_iter
use Rattle.sj_lazy.specs.declared.object.Keys.{Keys}
use Rattle.sj_lazy.specs.declared.object.Keys.TheVariants as keys
use Rattle.sj_lazy.specs.declared.object.Object.{Object}
use Rattle.sj_lazy.specs.declared.object.Object.TheVariants as object
use Rattle.sj_lazy.specs.declared.object.Values.{Values}
use Rattle.sj_lazy.specs.declared.object.Values.TheVariants as values

-- The items of an array and the members of an object: of a tape their number and nodes, and of a document the items, or the
-- pairs of a key and a value.
pub data Inside (A : Type 0) : Type 0 where
  tape_inside : ℕ × List Node → Inside A
  document_inside : A → Inside A

-- the items, if the value is an array, and the members, if it is an object
abbrev pub array_in : Contents → Option (Inside (List Document))
array_in (nodes ns) = option_map tape_inside (array_part ns)
array_in (document d) = option_map document_inside (items_inside d)

abbrev pub object_in : Contents → Option (Inside (List (Entry (CowStr Global) Document)))
object_in (nodes ns) = option_map tape_inside (object_part ns)
object_in (document d) = option_map document_inside (members_inside d)

-- the items of an array as trees, as they are held, the item at index i, and all items in order
abbrev pub array_items : Array → Items
array_items (array.Tape a) = tape.array_items a
array_items (array.Value v) = items_view cow_str_bytes decimal_cow_text v.now.items

abbrev pub array_contents : Array → Inside (List Document)
array_contents (array.Tape a) = tape_inside (tape.array_part_of a)
array_contents (array.Value v) = document_inside v.now.items

abbrev pub item_within : Inside (List Document) → ℕ → Option Contents
item_within (tape_inside p) i = option_map nodes (item_nodes p.0 p.1 i)
item_within (document_inside vs) i = option_map document (slice_get vs i)

abbrev pub array_parts : Array → List Contents
array_parts (array.Tape a) = map nodes (tape.array_runs a)
array_parts (array.Value v) = map document v.now.items

-- a member of a tape, and one of a document
abbrev pub tape_pair : List ℕ × List Node → List ℕ × Contents
tape_pair p = (p.0, nodes p.1)

abbrev pub document_pair : Entry (CowStr Global) Document → List ℕ × Contents
document_pair e = (cow_str_bytes e.key, document e.value)

-- the members of an object as trees, as they are held, the value of the first member with key k, and all members in order
abbrev pub object_members : Object → Members
object_members (object.Tape o) = tape.object_members o
object_members (object.Value m) = members_view cow_str_bytes decimal_cow_text m.now

abbrev pub object_contents : Object → Inside (List (Entry (CowStr Global) Document))
object_contents (object.Tape o) = tape_inside (tape.object_part_of o)
object_contents (object.Value m) = document_inside m.now

abbrev pub member_within : Inside (List (Entry (CowStr Global) Document)) → List ℕ → Option Contents
member_within (tape_inside p) k = option_map nodes (member_nodes p.0 p.1 k)
member_within (document_inside es) k = option_map document (value_at cow_str_bytes es k)

abbrev pub object_parts : Object → List (List ℕ × Contents)
object_parts (object.Tape o) = map tape_pair (tape.object_runs o)
object_parts (object.Value m) = map document_pair m.now

-- the child that a key or an index selects
abbrev pub part_of : Contents → Part → Option Contents
part_of (nodes ns) p = option_map nodes (child_nodes ns p)
part_of (document d) (key k) = option_map document (member_of cow_str_bytes d k)
part_of (document d) (place i) = option_map document (item_of d i)

-- the same, and an error with the type met if the value is no object, or no array
abbrev pub try_member : Contents → List ℕ → Result (Option Contents) TryTypeError
try_member c k = ok_or (option_map (λ o. member_within o k) (object_in c)) (mismatch object_type (contents_kind c))

abbrev pub try_item : Contents → ℕ → Result (Option Contents) TryTypeError
try_item c i = ok_or (option_map (λ a. item_within a i) (array_in c)) (mismatch array_type (contents_kind c))

-- what iterators have left
abbrev pub items_left : ArrayIter → List Contents
items_left (array_iter.Tape it) = map nodes (tape.items_left it)
items_left (array_iter.Value it) = map document (iter_rest it)

abbrev pub pairs_left : ObjectIter → List (List ℕ × Contents)
pairs_left (object_iter.Tape it) = map tape_pair (tape.pairs_left it)
pairs_left (object_iter.Value it) = map document_pair (pairs.entries_left it)

abbrev pub keys_left : Keys → List (List ℕ)
keys_left (keys.Tape it) = tape.keys_left it
keys_left (keys.Value it) = map cow_str_bytes (pairs.keys_left it)

abbrev pub values_left : Values → List Contents
values_left (values.Tape it) = map nodes (tape.values_left it)
values_left (values.Value it) = map document (pairs.values_left it)

-- a key with the tree of its value
abbrev pub pair_tree : List ℕ × Contents → List ℕ × Tree
pair_tree p = (p.0, contents_tree p.1)
