-- Parts of documents: which value it is, and which error stands in its place.
use Rattle.std.specs.Prelude.{ℕ, List, Option, Some, None, Result, Ok, Err, ok_or, option_map, option_and_then, slice_get}
use Rattle.sj_base.specs.Containers.{scalar_in}
use Rattle.sj_base.specs.declared.fault.TryTypeError.{TryTypeError}
use Rattle.sj_base.specs.declared.static_node.ValueType.{ValueType}
use Rattle.sj_base.specs.declared.static_node.ValueType.TheVariants.{Array as array_type, Object as object_type}
use Rattle.sj_reads.specs.Reads.{mismatch}
use Rattle.sj_reads.specs.Member.{Seen, result_some}
use Rattle.sj_object.specs.Pairs.{value_at}
use Rattle.sj_owned.specs.Views.{value_tree, value_kind, items_inside, members_inside}
use Rattle.sj_owned.specs.declared.value.Value.{Value, out-Value}
use Rattle.sj_owned.specs.declared.value.Value.TheOpen.{Value-F}

abbrev pub text_layer : {K D A : Type 0} → Value-F K D A → Option K
text_layer (Value-F.String s) = Some s
text_layer _ = None

-- the string, if the document is one
abbrev pub text_inside : {K D : Type 0} → Value K D → Option K
text_inside {K} {D} v = text_layer (out-Value K D v)

-- nothing if there is no such part, otherwise what `read` finds in it, or an error with the type met
abbrev pub read_part : {K D A : Type 0} → (Value K D → Option A) → ValueType → Result (Option (Value K D)) TryTypeError → Result (Option A) TryTypeError
read_part read expected (Ok (Some v)) = result_some (ok_or (read v) (mismatch expected (value_kind v)))
read_part read expected (Ok None) = Ok None
read_part read expected (Err e) = Err e

-- the item at place i, if the document is an array
abbrev pub item_of : {K D : Type 0} → Value K D → ℕ → Option (Value K D)
item_of v i = option_and_then (λ vs. slice_get vs i) (items_inside v)

-- the same, and an error if it is none
abbrev pub try_item : {K D : Type 0} → Value K D → ℕ → Result (Option (Value K D)) TryTypeError
try_item v i = ok_or (option_map (λ vs. slice_get vs i) (items_inside v)) (mismatch array_type (value_kind v))

module _ {K D : Type 0} (text : K → List ℕ) where
  -- the value of the member with key k, if the document is an object
  abbrev pub member_of : Value K D → List ℕ → Option (Value K D)
  member_of v k = option_and_then (λ es. value_at text es k) (members_inside v)

  -- the same, and an error if it is none
  abbrev pub try_value : Value K D → List ℕ → Result (Option (Value K D)) TryTypeError
  try_value v k = ok_or (option_map (λ es. value_at text es k) (members_inside v)) (mismatch object_type (value_kind v))

  -- what typed reads see of the member with key k
  abbrev pub member_seen : (D → List ℕ) → Value K D → List ℕ → Option Seen
  member_seen literal v k = option_map (λ u. record { kind = value_kind u; scalar = scalar_in (value_tree text literal u) }) (member_of v k)
