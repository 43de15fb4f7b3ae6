-- The entry that a node stands for, its type, and the number of nodes beneath it.
use Rattle.std.specs.Prelude.{ℕ, pos, List, map}
use Rattle.sj_base.specs.Scalar.{decimal_text, static_type}
use Rattle.sj_base.specs.declared.static_node.ValueType.{ValueType}
use Rattle.sj_base.specs.declared.static_node.ValueType.TheVariants.{Decimal as decimal_type, String as string_type, Array as array_type, Object as object_type}
use Rattle.sj_base.specs.declared.static_node.StaticNode.{StaticNode}
use Rattle.sj_base.specs.declared.static_node.StaticNode.TheVariants.{Null, Bool as Boolean, I64, U64}
use Rattle.sj_tape.specs.Listing.{Entry, null_entry, boolean_entry, integer_entry, decimal_entry, string_entry, list_entry, object_entry}
use Rattle.sj_tape.specs.declared.node.Node.{Node}
use Rattle.sj_tape.specs.declared.node.Node.TheVariants.{String, Object, Array, Static, Decimal}

-- `I64` and `U64` stand for the integer alike
abbrev pub static_entry : StaticNode → Entry
static_entry Null = null_entry
static_entry (Boolean b) = boolean_entry b
static_entry (I64 n) = integer_entry n
static_entry (U64 n) = integer_entry (pos n)

abbrev pub node_entry : Node → Entry
node_entry (String s) = string_entry s.now
node_entry (Object len count) = object_entry len count
node_entry (Array len count) = list_entry len count
node_entry (Static s) = static_entry s
node_entry (Decimal d) = decimal_entry (decimal_text d)

abbrev pub entries : List Node → List Entry
entries nodes = map node_entry nodes

-- the type, which tells `I64` from `U64`
abbrev pub node_type : Node → ValueType
node_type (String s) = string_type
node_type (Object len count) = object_type
node_type (Array len count) = array_type
node_type (Static s) = static_type s
node_type (Decimal d) = decimal_type

-- the number of nodes beneath
abbrev pub node_count : Node → ℕ
node_count (String s) = 0
node_count (Object len count) = count
node_count (Array len count) = count
node_count (Static s) = 0
node_count (Decimal d) = 0
