-- Reads of a member by key, where the value turns out to be an object.
use Rattle.std.proofs.Common.{◌≡◌, List, Option, Some, None, Result, Ok, Err, refl, ap, ◌∙◌}
use Rattle.std.specs.Prelude.{ok_or}
use Rattle.sj_base.specs.Tree.{Tree}
use Rattle.sj_base.specs.declared.static_node.ValueType.{ValueType}
use Rattle.sj_base.specs.declared.static_node.ValueType.TheVariants.{Object as object_type}
use Rattle.sj_base.specs.declared.fault.TryTypeError.{TryTypeError}
use Rattle.sj_reads.specs.Member.{Seen, looked_up, result_some}
use Rattle.sj_reads.specs.Reads.{mismatch}
use Rattle.sj_tape.specs.declared.node.Node.{Node}
use Rattle.sj_tape.specs.ByName.{in_object, read_member}
use Rattle.sj_tape.specs.Views.{first_type, nodes_tree}

in_object_ok : {A B : Type 0} (kind : ValueType) (x y : A) (r : Result B TryTypeError) → Ok x ≡ in_object kind (Ok y) → (x ≡ y) × (r ≡ in_object kind r)
in_object_ok object_type x y r e = (cc, refl)
in_object_ok kind x y r e = absurd cc

-- what is read in the member is what the read by key gives
pub read_in_member : {A : Type 0} (read : Tree → Option A) (expected kind : ValueType) (ns : List Node) (found : Option (List Node)) (r : Result A TryTypeError) → Ok (Some ns) ≡ in_object kind (Ok found) → r ≡ ok_or (read (nodes_tree ns)) (mismatch expected (first_type ns)) → (Some ns ≡ found) × (result_some r ≡ in_object kind (read_member read expected found))
read_in_member {A} read expected kind ns found r is e =
    let h = in_object_ok kind (Some ns) found (read_member read expected found) is in
    (h.0, ap (λ (s : Result A TryTypeError). result_some s) e ∙ ap (λ (f : Option (List Node)). read_member read expected f) h.0 ∙ h.1)

-- no such member
pub read_no_member : {A : Type 0} (read : Tree → Option A) (expected kind : ValueType) (found : Option (List Node)) → Ok None ≡ in_object kind (Ok found) → (None ≡ found) × (Ok None ≡ in_object kind (read_member read expected found))
read_no_member {A} read expected kind found is =
    let h = in_object_ok kind None found (read_member read expected found) is in
    (h.0, ap (λ (f : Option (List Node)). read_member read expected f) h.0 ∙ h.1)

-- no object
pub read_no_object : {A B : Type 0} (kind : ValueType) (e : TryTypeError) (x : A) (r : Result B TryTypeError) → Err e ≡ in_object kind (Ok x) → Err e ≡ in_object kind r
read_no_object object_type e x r is = absurd cc
read_no_object kind e x r is = cc

-- ---- look-ups

pub look_up_ok : {A : Type 0} (kind : ValueType) (x y : A) (m : Option Seen) → Ok x ≡ in_object kind (Ok y) → (x ≡ y) × (Ok m ≡ looked_up kind m)
look_up_ok object_type x y m e = (cc, refl)
look_up_ok kind x y m e = absurd cc

pub look_up_no_object : {A : Type 0} (kind : ValueType) (e : TryTypeError) (x : A) (m : Option Seen) → Err e ≡ in_object kind (Ok x) → Err e ≡ looked_up kind m
look_up_no_object object_type e x m is = absurd cc
look_up_no_object kind e x m is = cc
