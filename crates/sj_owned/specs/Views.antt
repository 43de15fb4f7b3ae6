-- What documents stand for.
use Rattle.std.specs.Prelude.{ℕ, List, Option, Some, None, Vec, map}
use Rattle.std.specs.declared.alloc.Global.{Global}
use Rattle.sj_base.specs.Tree.{Tree, decimal, string, list, object, Items, Members}
use Rattle.sj_base.specs.Scalar.{static_tree, static_type}
use Rattle.sj_base.specs.declared.static_node.ValueType.{ValueType}
use Rattle.sj_base.specs.declared.static_node.ValueType.TheVariants.{Decimal as decimal_type, String as string_type, Array as array_type, Object as object_type}
use Rattle.sj_object.specs.declared.entry.Entry.{Entry}
use Rattle.sj_build.specs.Trees.{items_of, members_of, on_values}
use Rattle.sj_owned.specs.declared.value.Value.{Value, fold-Value, out-Value}
use Rattle.sj_owned.specs.declared.value.Value.TheOpen.{Value-F}

module _ {K D : Type 0} (text : K → List ℕ) (literal : D → List ℕ) where
  -- one level, with each value inside already seen as its tree
  abbrev pub tree_step : Value-F K D Tree → Tree
  tree_step (Value-F.Static s) = static_tree s
  tree_step (Value-F.Decimal d) = decimal (literal d)
  tree_step (Value-F.String s) = string (text s)
  tree_step (Value-F.Array v) = list (items_of v.items)
  tree_step (Value-F.Object es) = object (members_of text es)

  -- the tree that a document stands for
  abbrev pub value_tree : Value K D → Tree
  value_tree = fold-Value K D Tree tree_step

  abbrev pub items_view : List (Value K D) → Items
  items_view vs = items_of (map value_tree vs)

  abbrev pub members_view : List (Entry K (Value K D)) → Members
  members_view es = members_of text (on_values value_tree es)

-- one level: the type, the items of an array, and the members of an object
abbrev pub kind_layer : {K D A : Type 0} → Value-F K D A → ValueType
kind_layer (Value-F.Static s) = static_type s
kind_layer (Value-F.Decimal d) = decimal_type
kind_layer (Value-F.String s) = string_type
kind_layer (Value-F.Array v) = array_type
kind_layer (Value-F.Object es) = object_type

abbrev pub items_layer : {K D A : Type 0} → Value-F K D A → Option (List A)
items_layer (Value-F.Array v) = Some v.items
items_layer _ = None

abbrev pub members_layer : {K D A : Type 0} → Value-F K D A → Option (List (Entry K A))
members_layer (Value-F.Object es) = Some es
members_layer _ = None

-- The type tells an I64 from a U64.
abbrev pub value_kind : {K D : Type 0} → Value K D → ValueType
value_kind {K} {D} v = kind_layer (out-Value K D v)

abbrev pub array_layer : {K D A : Type 0} → Value-F K D A → Option (Vec A Global)
array_layer (Value-F.Array v) = Some v
array_layer _ = None

-- the vector of the items, if the document is an array
abbrev pub array_inside : {K D : Type 0} → Value K D → Option (Vec (Value K D) Global)
array_inside {K} {D} v = array_layer (out-Value K D v)

-- the items, if the document is an array
abbrev pub items_inside : {K D : Type 0} → Value K D → Option (List (Value K D))
items_inside {K} {D} v = items_layer (out-Value K D v)

-- the members, if the document is an object
abbrev pub members_inside : {K D : Type 0} → Value K D → Option (List (Entry K (Value K D)))
members_inside {K} {D} v = members_layer (out-Value K D v)
