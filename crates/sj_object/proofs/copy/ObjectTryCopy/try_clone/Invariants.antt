use Rattle.std.proofs.Common.{◌≡◌, ◌≤◌, length, take, vec_len, vec_capacity}
use Rattle.sj_object.specs.Copies.{copied_pairs}
use Rattle.sj_object.proofs.copy.ObjectTryCopy.try_clone.Given as goal

abbrev pub invariant-loop-entry : goal.invariant-loop-entry
invariant-loop-entry g l =
    let copied = copied_pairs g.K.TryCopy.copied g.V.TryCopy.copied in
    (copied l.entries.items ≡ copied (take l.entry-index l.self)) × (vec_len l.entries ≡ l.entry-index) × (length l.self ≤ vec_capacity l.entries)
