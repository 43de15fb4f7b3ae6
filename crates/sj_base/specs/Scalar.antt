-- What scalars stand for: trees, types, and how they compare.
use Rattle.std.specs.Prelude.{ℕ, ℤ, pos, Bool, true, false, cond, ◌==◌, List, string_bytes}
use Rattle.std.specs.Ordering.{on, int_eq, eq_of_both}
use Rattle.sj_base.specs.Tree.{Tree, null, boolean, integer, decimal, string}
use Rattle.sj_base.specs.declared.decimal.Decimal.{Decimal}
use Rattle.sj_base.specs.declared.decimal.DecimalBuf.{DecimalBuf}
use Rattle.sj_base.specs.declared.decimal.DecimalCow.{DecimalCow}
use Rattle.sj_base.specs.declared.decimal.DecimalCow.TheVariants.{Borrowed, Owned}
use Rattle.sj_base.specs.declared.static_node.ValueType.{ValueType}
use Rattle.sj_base.specs.declared.static_node.ValueType.TheVariants.{Null as null_type, Bool as boolean_type, I64 as signed_type, U64 as unsigned_type, Decimal as decimal_type, String as string_type}
use Rattle.sj_base.specs.declared.static_node.StaticNode.{StaticNode}
use Rattle.sj_base.specs.declared.static_node.StaticNode.TheVariants.{Null, Bool as Boolean, I64, U64}
use Rattle.sj_base.specs.declared.scalar.Scalar.{Scalar}
use Rattle.sj_base.specs.declared.scalar.Scalar.TheVariants.{Static, Text, Literal}

-- the text of a decimal literal
abbrev pub decimal_text : Decimal → List ℕ
decimal_text d = d.text.now

abbrev pub decimal_buf_text : DecimalBuf → List ℕ
decimal_buf_text d = string_bytes d.text

abbrev pub decimal_cow_text : DecimalCow → List ℕ
decimal_cow_text (Borrowed d) = decimal_text d
decimal_cow_text (Owned d) = decimal_buf_text d

abbrev pub is_borrowed : DecimalCow → Bool
is_borrowed (Borrowed d) = true
is_borrowed (Owned d) = false

-- the tree of a scalar
abbrev pub static_tree : StaticNode → Tree
static_tree Null = null
static_tree (Boolean b) = boolean b
static_tree (I64 n) = integer n
static_tree (U64 n) = integer (pos n)

abbrev pub scalar_tree : Scalar → Tree
scalar_tree (Static node) = static_tree node
scalar_tree (Text s) = string s.now
scalar_tree (Literal d) = decimal (decimal_text d)

-- The type of an integer tells its carrier.
abbrev pub static_type : StaticNode → ValueType
static_type Null = null_type
static_type (Boolean b) = boolean_type
static_type (I64 n) = signed_type
static_type (U64 n) = unsigned_type

abbrev pub scalar_type : Scalar → ValueType
scalar_type (Static node) = static_type node
scalar_type (Text s) = string_type
scalar_type (Literal d) = decimal_type

-- 0 for null, 1 for a boolean, 2 for an integer
abbrev pub static_rank : StaticNode → ℕ
static_rank Null = 0
static_rank (Boolean b) = 1
static_rank (I64 n) = 2
static_rank (U64 n) = 2

-- the integer, 1 for true, and 0 for false and null
abbrev pub static_number : StaticNode → ℤ
static_number Null = pos 0
static_number (Boolean b) = cond b (pos 1) (pos 0)
static_number (I64 n) = n
static_number (U64 n) = pos n

-- what `==` answers: whether the trees are equal
abbrev pub static_eq : StaticNode → StaticNode → Bool
static_eq = eq_of_both (on static_rank ◌==◌) (on static_number int_eq)
