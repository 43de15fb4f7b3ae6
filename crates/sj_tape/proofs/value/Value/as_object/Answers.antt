use Rattle.std.proofs.Common.{Some, ap, sym, subst, ◌∙◌}
use Rattle.sj_base.specs.Tree.{Tree, IsValidTree, AreValidMembers}
use Rattle.sj_tape.specs.Nodes.{entries}
use Rattle.sj_base.specs.Containers.{members_in}
use Rattle.sj_tape.proofs.Listings.{members_from, lists_members}
use Rattle.sj_tape.specs.Listed.{tree_of}
use Rattle.sj_tape.proofs.ValidTrees.{tree_found, are_valid_members}
use Rattle.sj_tape.proofs.Tapes.{listed_front}
use Rattle.sj_tape.proofs.Cutting.{object_inside}
use Rattle.sj_tape.proofs.value.Value.as_object.Goals as goal

pub invariant_of-result : goal.invariant_of-result
invariant_of-result c =
    let v = c.args.self.now in
    let rest = c.in_ok-first.nodes.now in
    let front = c.in_ok-first.ensures in
    let w = object_inside v.nodes.now rest c.in_ok-first.first c.in-Object.len c.in-Object.count (listed_front v.nodes.now rest c.in_ok-first.first v.listed front) front c.in-Object.is in
    let members : AreValidMembers w.0 = subst (λ (t : Tree). IsValidTree t) w.1 (tree_found (tree_of (entries v.nodes.now)) v.is_valid) in
    record { members = lists_members (entries rest) w.0 c.in-Object.len w.3 w.2; are_valid = are_valid_members (entries rest) w.0 c.in-Object.len w.3 w.2 members }

pub returns-in-Object-clause-tree : goal.returns-in-Object-clause-tree
returns-in-Object-clause-tree c =
    let v = c.args.self.now in
    let rest = c.in_ok-first.nodes.now in
    let front = c.in_ok-first.ensures in
    let w = object_inside v.nodes.now rest c.in_ok-first.first c.in-Object.len c.in-Object.count (listed_front v.nodes.now rest c.in_ok-first.first v.listed front) front c.in-Object.is in
    ap Some (members_from (entries rest) w.0 c.in-Object.len w.3 w.2) ∙ sym (ap (λ (t : Tree). members_in t) w.1)
