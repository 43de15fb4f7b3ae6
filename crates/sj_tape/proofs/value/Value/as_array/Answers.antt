use Rattle.std.proofs.Common.{Some, ap, sym, subst, ◌∙◌, rules}
use Rattle.sj_base.specs.Tree.{Tree, IsValidTree, AreValidItems}
use Rattle.sj_tape.specs.Nodes.{entries}
use Rattle.sj_base.specs.Containers.{items_in}
use Rattle.sj_tape.proofs.Listings.{items_from, lists_items}
use Rattle.sj_tape.specs.Listed.{tree_of}
use Rattle.sj_tape.proofs.ValidTrees.{tree_found, are_valid_items}
use Rattle.sj_tape.proofs.Tapes.{listed_front}
use Rattle.sj_tape.proofs.Cutting.{array_inside}
use Rattle.sj_tape.proofs.value.Value.as_array.Goals as goal

pub invariant_of-result : goal.invariant_of-result
invariant_of-result c =
    let v = c.args.self.now in
    let rest = c.in_ok-first.nodes.now in
    let front = c.in_ok-first.ensures in
    let w = array_inside v.nodes.now rest c.in_ok-first.first c.in-Array.len c.in-Array.count (listed_front v.nodes.now rest c.in_ok-first.first v.listed front) front c.in-Array.is in
    let items : AreValidItems w.0 = subst (λ (t : Tree). IsValidTree t) w.1 (tree_found (tree_of (entries v.nodes.now)) v.is_valid) in
    record { items = lists_items (entries rest) w.0 c.in-Array.len w.3 w.2; are_valid = are_valid_items (entries rest) w.0 c.in-Array.len w.3 w.2 items }

pub returns-in-Array-clause-tree : goal.returns-in-Array-clause-tree
returns-in-Array-clause-tree c =
    let v = c.args.self.now in
    let rest = c.in_ok-first.nodes.now in
    let front = c.in_ok-first.ensures in
    let w = array_inside v.nodes.now rest c.in_ok-first.first c.in-Array.len c.in-Array.count (listed_front v.nodes.now rest c.in_ok-first.first v.listed front) front c.in-Array.is in
    ap Some (items_from (entries rest) w.0 c.in-Array.len w.3 w.2) ∙ sym (ap (λ (t : Tree). items_in t) w.1)

pub returns-in_default-clause-nodes : goal.returns-in_default-clause-nodes
returns-in_default-clause-nodes c = search rules
