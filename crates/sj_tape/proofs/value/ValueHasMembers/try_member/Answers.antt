use Rattle.std.proofs.Common.{List, Option, Some, Ok, ◌∙◌, ap, ap₂, rules}
use Rattle.std.specs.Prelude.{option_map, Result}
use Rattle.std.proofs.lemmas.Result.{err_from_is_err_and}
use Rattle.sj_base.specs.Path.{key}
use Rattle.sj_base.specs.Tree.{Tree}
use Rattle.sj_base.specs.declared.fault.TryTypeError.{TryTypeError}
use Rattle.sj_base.specs.declared.static_node.ValueType.{ValueType}
use Rattle.sj_reads.specs.Member.{Seen}
use Rattle.sj_tape.specs.declared.node.Node.{Node}
use Rattle.sj_tape.specs.ByName.{member_seen, seen_nodes}
use Rattle.sj_tape.specs.Children.{child_nodes}
use Rattle.sj_tape.specs.Views.{value_kind, value_nodes}
use Rattle.sj_tape.proofs.MemberReads.{look_up_ok, look_up_no_object}
use Rattle.sj_tape.proofs.value.ValueHasMembers.try_member.Goals as goal

abbrev Answer : Type 0
Answer = Result (Option Seen) TryTypeError

pub invariant_of-result : goal.invariant_of-result
invariant_of-result c = search rules

pub returns-in_err-member : goal.returns-in_err-member
returns-in_err-member c =
    let value = c.args.self.now in
    let p = err_from_is_err_and c.from_residual.result c.from_residual.ensures.1 in
    rw (p.1, p.2) (look_up_no_object (value_kind value) c.in_err-member.field-0.0 (child_nodes (value_nodes value) (key c.args.key.now)) (member_seen value c.args.key.now) c.in_err-member.ensures.nodes)

pub returns-in-Some : goal.returns-in-Some
returns-in-Some c =
    let value = c.args.self.now in
    let member = value_nodes c.in-Some.member in
    let met = rw c.in-Some.is at c.in_ok-member.ensures.nodes in
    let h = look_up_ok (value_kind value) (Some member) (child_nodes (value_nodes value) (key c.args.key.now)) (member_seen value c.args.key.now) met in
    ap₂ {C = Answer} (λ (kind : ValueType) (scalar : Option Tree). Ok (Some record { kind = kind; scalar = scalar })) c.value_type.ensures c.into_scalar.ensures.tree
    ∙ ap {B = Answer} (λ (found : Option (List Node)). Ok (option_map seen_nodes found)) h.0
    ∙ h.1

pub returns-in-None : goal.returns-in-None
returns-in-None c =
    let value = c.args.self.now in
    let met = rw c.in-None.is at c.in_ok-member.ensures.nodes in
    let h = look_up_ok (value_kind value) _ (child_nodes (value_nodes value) (key c.args.key.now)) (member_seen value c.args.key.now) met in
    ap {B = Answer} (λ (found : Option (List Node)). Ok (option_map seen_nodes found)) h.0 ∙ h.1
