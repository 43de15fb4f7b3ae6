-- Reads of members by key.
use Rattle.std.specs.Prelude.{Option, Some, None, Result, Ok, Err, ok_or, option_map}
use Rattle.sj_reads.specs.Views.{ok_map}
use Rattle.sj_base.specs.Tree.{Tree}
use Rattle.sj_base.specs.Scalar.{scalar_tree}
use Rattle.sj_base.specs.declared.fault.TryTypeError.{TryTypeError}
use Rattle.sj_base.specs.declared.static_node.ValueType.{ValueType}
use Rattle.sj_base.specs.declared.static_node.ValueType.TheVariants.{Object}
use Rattle.sj_reads.specs.Reads.{mismatch}
use Rattle.sj_reads.specs.declared.found.Member.{Member}

-- what typed reads see of a value: its type, and its tree if it is a scalar
pub record Seen : Type 0 where
  pub kind : ValueType
  pub scalar : Option Tree

abbrev pub seen : Member → Seen
seen m = record { kind = m.kind; scalar = option_map scalar_tree m.scalar }

-- the same of the result of a look-up
abbrev pub seen_result : Result (Option Member) TryTypeError → Result (Option Seen) TryTypeError
seen_result r = ok_map (option_map seen) r

-- The result of a look-up in a value of that type, where an object would have that member.
abbrev pub looked_up : ValueType → Option Seen → Result (Option Seen) TryTypeError
looked_up Object m = Ok m
looked_up kind m = Err (mismatch Object kind)

-- the scalar that was found
abbrev pub found_scalar : Result (Option Seen) TryTypeError → Option Tree
found_scalar (Ok (Some m)) = m.scalar
found_scalar _ = None

abbrev pub result_some : {A : Type 0} → Result A TryTypeError → Result (Option A) TryTypeError
result_some r = ok_map Some r

-- What a read by key answers: `None` if there is no such member, and an error if the value is no object or the member is of
-- another type. `read` is what the read makes of the member's scalar.
abbrev pub answered : {A : Type 0} → Option A → ValueType → Result (Option Seen) TryTypeError → Result (Option A) TryTypeError
answered read expected (Ok (Some m)) = result_some (ok_or read (mismatch expected m.kind))
answered read expected (Ok None) = Ok None
answered read expected (Err e) = Err e

-- The same, where `read` is a function of the scalar.
abbrev pub try_found : {A : Type 0} → (Option Tree → Option A) → ValueType → Result (Option Seen) TryTypeError → Result (Option A) TryTypeError
try_found read expected found = answered (read (found_scalar found)) expected found
