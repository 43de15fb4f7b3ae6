-- Reads of the first member with a key.
use Rattle.std.specs.Prelude.{ℕ, List, Option, Some, None, Result, Ok, Err, ok_or, option_map}
use Rattle.std.specs.Cow.{cow_str_bytes}
use Rattle.sj_base.specs.Path.{key}
use Rattle.sj_base.specs.Scalar.{decimal_cow_text}
use Rattle.sj_base.specs.declared.fault.TryTypeError.{TryTypeError}
use Rattle.sj_base.specs.declared.static_node.ValueType.{ValueType}
use Rattle.sj_owned.specs.Parts.{member_seen as seen_in_document}
use Rattle.sj_reads.specs.Member.{Seen, result_some}
use Rattle.sj_reads.specs.Reads.{mismatch}
use Rattle.sj_tape.specs.ByName.{seen_nodes}
use Rattle.sj_tape.specs.Children.{child_nodes}
use Rattle.sj_lazy.specs.Contents.{Contents, nodes, document}
use Rattle.sj_lazy.specs.Views.{contents_kind}

-- what typed reads see of it
abbrev pub member_seen : Contents → List ℕ → Option Seen
member_seen (nodes ns) k = option_map seen_nodes (child_nodes ns (key k))
member_seen (document d) k = seen_in_document cow_str_bytes decimal_cow_text d k

-- nothing if there is no such member, otherwise what `read` finds in it, or an error with the type met
abbrev pub read_found : {A : Type 0} → (Contents → Option A) → ValueType → Result (Option Contents) TryTypeError → Result (Option A) TryTypeError
read_found read expected (Ok (Some c)) = result_some (ok_or (read c) (mismatch expected (contents_kind c)))
read_found read expected (Ok None) = Ok None
read_found read expected (Err e) = Err e
