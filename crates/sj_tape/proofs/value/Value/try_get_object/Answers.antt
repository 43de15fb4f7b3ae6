use Rattle.std.proofs.Common.{List, Option, ◌∙◌, ap}
use Rattle.std.specs.Prelude.{option_and_then}
use Rattle.std.proofs.lemmas.Result.{err_from_is_err_and}
use Rattle.sj_base.specs.Containers.{members_in}
use Rattle.sj_base.specs.Path.{key}
use Rattle.sj_base.specs.declared.static_node.ValueType.TheVariants.{Object}
use Rattle.sj_tape.specs.declared.node.Node.{Node}
use Rattle.sj_tape.specs.Children.{object_part, child_nodes}
use Rattle.sj_tape.specs.ByName.{read_member}
use Rattle.sj_tape.specs.Views.{value_kind, value_nodes}
use Rattle.sj_tape.proofs.MemberReads.{read_in_member, read_no_member, read_no_object}
use Rattle.sj_tape.proofs.value.Value.try_get_object.Goals as goal

pub returns-in_err-member : goal.returns-in_err-member
returns-in_err-member c =
    let value = c.args.self.now in
    let found = child_nodes (value_nodes value) (key c.args.name.now) in
    let p = err_from_is_err_and c.from_residual.result c.from_residual.ensures.1 in
    rw (p.1, p.2) record { tree = read_no_object (value_kind value) c.in_err-member.field-0.0 found (read_member members_in Object found) c.in_err-member.ensures.nodes; nodes = tt }

pub returns-in_err-try_as_object-in-Some : goal.returns-in_err-try_as_object-in-Some
returns-in_err-try_as_object-in-Some c =
    let value = c.args.self.now in
    let met = rw c.in-Some.is at c.in_ok-member.ensures.nodes in
    let read = read_in_member members_in Object (value_kind value) (value_nodes c.in-Some.member) (child_nodes (value_nodes value) (key c.args.name.now)) _ met c.in_err-try_as_object-in-Some.ensures.tree in
    let p = err_from_is_err_and c.from_residual-in_err-try_as_object-in-Some.result c.from_residual-in_err-try_as_object-in-Some.ensures.1 in
    rw (p.1, p.2) record { tree = read.1; nodes = tt }

pub returns-in_ok-try_as_object-in-Some : goal.returns-in_ok-try_as_object-in-Some
returns-in_ok-try_as_object-in-Some c =
    let value = c.args.self.now in
    let met = rw c.in-Some.is at c.in_ok-member.ensures.nodes in
    let read = read_in_member members_in Object (value_kind value) (value_nodes c.in-Some.member) (child_nodes (value_nodes value) (key c.args.name.now)) _ met c.in_ok-try_as_object-in-Some.ensures.tree in
    record {
      tree = read.1;
      nodes = c.in_ok-try_as_object-in-Some.ensures.nodes ∙ ap (λ (found : Option (List Node)). option_and_then object_part found) read.0;
    }

pub returns-in-None : goal.returns-in-None
returns-in-None c =
    let value = c.args.self.now in
    let met = rw c.in-None.is at c.in_ok-member.ensures.nodes in
    let none = read_no_member members_in Object (value_kind value) (child_nodes (value_nodes value) (key c.args.name.now)) met in
    record { tree = none.1; nodes = ap (λ (found : Option (List Node)). option_and_then object_part found) none.0 }
