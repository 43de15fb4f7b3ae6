-- Reads of members by key. Their errors tell `I64` from `U64`, which a tree does not.
use Rattle.std.specs.Prelude.{ℕ, List, Option, Some, None, Result, Ok, Err, ok_or, option_map}
use Rattle.sj_base.specs.Tree.{Tree}
use Rattle.sj_base.specs.Path.{key}
use Rattle.sj_base.specs.declared.static_node.ValueType.{ValueType}
use Rattle.sj_base.specs.declared.static_node.ValueType.TheVariants.{Object as object_type}
use Rattle.sj_base.specs.declared.fault.TryTypeError.{TryTypeError}
use Rattle.sj_reads.specs.Reads.{mismatch}
use Rattle.sj_reads.specs.Member.{Seen, result_some}
use Rattle.sj_tape.specs.Children.{child_nodes}
use Rattle.sj_base.specs.Containers.{scalar_in}
use Rattle.sj_tape.specs.Views.{value_nodes, value_kind, first_type, nodes_tree}
use Rattle.sj_tape.specs.declared.node.Node.{Node}
use Rattle.sj_tape.specs.declared.value.Value.{Value}

-- the first value of the nodes, as typed reads see it
abbrev pub seen_nodes : List Node → Seen
seen_nodes ns = record { kind = first_type ns; scalar = scalar_in (nodes_tree ns) }

-- the first member with key k, if the value is an object
abbrev pub member_seen : Value → List ℕ → Option Seen
member_seen v k = option_map seen_nodes (child_nodes (value_nodes v) (key k))

-- nothing if there is no such member, otherwise what `read` finds in it, or an error with the type met
abbrev pub read_member : {A : Type 0} → (Tree → Option A) → ValueType → Option (List Node) → Result (Option A) TryTypeError
read_member read expected None = Ok None
read_member read expected (Some ns) = result_some (ok_or (read (nodes_tree ns)) (mismatch expected (first_type ns)))

-- the result for an object, and an error with the type met for any other value
abbrev pub in_object : {A : Type 0} → ValueType → Result A TryTypeError → Result A TryTypeError
in_object object_type result = result
in_object kind result = Err (mismatch object_type kind)

-- the nodes of the value of the first member with key k
abbrev pub try_nodes : Value → List ℕ → Result (Option (List Node)) TryTypeError
try_nodes v k = in_object (value_kind v) (Ok (child_nodes (value_nodes v) (key k)))

-- what `read` finds in that value
abbrev pub try_member : {A : Type 0} → (Tree → Option A) → ValueType → Value → List ℕ → Result (Option A) TryTypeError
try_member read expected v k = in_object (value_kind v) (read_member read expected (child_nodes (value_nodes v) (key k)))
