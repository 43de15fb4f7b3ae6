use Rattle.std.proofs.Common.{◌≡◌, List, Option, Some, None, option_map, slice_range, sym, ◌∙◌, ap, inr}
use Rattle.sj_base.specs.Path.{member_at}
use Rattle.sj_tape.specs.Children.{member_nodes}
use Rattle.sj_tape.specs.Listed.{listed_members}
use Rattle.sj_tape.specs.Nodes.{entries}
use Rattle.sj_tape.specs.Views.{value_tree, nodes_tree}
use Rattle.sj_tape.specs.declared.node.Node.{Node}
use Rattle.sj_tape.specs.declared.value.Value.{Value}
use Rattle.sj_tape.proofs.ChildTrees.{member_nodes-trees, found_listed}
use Rattle.sj_tape.proofs.Tapes.{nodes_are_tape}
use Rattle.sj_tape.proofs.ValidTrees.{members_found, nodes_are_valid}
use Rattle.sj_tape.proofs.object.Object.get.Goals as goal

pub returns-in_err-found-clause-tree : goal.returns-in_err-found-clause-tree
returns-in_err-found-clause-tree c =
    let o = c.args.self.now in
    let none : None ≡ member_nodes o.len o.nodes.now c.args.name.now = c.in_err-found.ensures.found ∙ ap (λ (ns : List Node). member_nodes o.len ns c.args.name.now) c.new.ensures.items in
    let shown : None ≡ member_at (listed_members o.len (entries o.nodes.now)) c.args.name.now = ap (λ (x : Option (List Node)). option_map nodes_tree x) none ∙ member_nodes-trees o.len o.nodes.now c.args.name.now o.members in
    ap (λ (x : Option Value). option_map value_tree x) c.from_residual.ensures ∙ shown

pub invariant_of-result : goal.invariant_of-result
invariant_of-result c =
    let o = c.args.self.now in
    let found : Some (slice_range o.nodes.now c.in_ok-found.found.start c.in_ok-found.found.end) ≡ member_nodes o.len o.nodes.now c.args.name.now = ap (λ (ns : List Node). Some (slice_range ns c.in_ok-found.found.start c.in_ok-found.found.end)) (sym c.new.ensures.items) ∙ (c.in_ok-found.ensures.found ∙ ap (λ (ns : List Node). member_nodes o.len ns c.args.name.now) c.new.ensures.items) in
    let listed = found_listed o.len o.nodes.now c.args.name.now _ o.members (members_found _ o.are_valid) found in
    record { listed = nodes_are_tape _ (inr listed); is_valid = nodes_are_valid _ (inr listed) }

pub returns-clause-tree : goal.returns-clause-tree
returns-clause-tree c =
    let o = c.args.self.now in
    let found : Some (slice_range o.nodes.now c.in_ok-found.found.start c.in_ok-found.found.end) ≡ member_nodes o.len o.nodes.now c.args.name.now = ap (λ (ns : List Node). Some (slice_range ns c.in_ok-found.found.start c.in_ok-found.found.end)) (sym c.new.ensures.items) ∙ (c.in_ok-found.ensures.found ∙ ap (λ (ns : List Node). member_nodes o.len ns c.args.name.now) c.new.ensures.items) in
    ap (λ (x : Option (List Node)). option_map nodes_tree x) found ∙ member_nodes-trees o.len o.nodes.now c.args.name.now o.members
