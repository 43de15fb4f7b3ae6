use Rattle.std.proofs.Common.{◌≡◌, ◌≢◌, List, [], Some, ap, subst, sym, ◌∙◌}
use Rattle.sj_tape.specs.Listed.{IsTape, tree_of}
use Rattle.sj_tape.specs.Nodes.{entries}
use Rattle.sj_tape.specs.declared.node.Node.{Node}
use Rattle.sj_base.specs.Tree.{IsValidTree}
use Rattle.sj_tape.proofs.ValidTrees.{tree_found}
use Rattle.sj_tape.proofs.Tapes.{listed_tree-some, entries_nil}
use Rattle.sj_tape.proofs.tape.Tape.as_value.Goals as goal

pub invariant_of-result : goal.invariant_of-result
invariant_of-result c =
    let same : c.args.self.now.nodes.items ≡ c.nodes.result.now = sym c.nodes.ensures in
    record { listed = subst (λ (ms : List Node). IsTape (entries ms)) same c.args.self.now.listed; is_valid = subst (λ (ms : List Node). ∥ IsValidTree (tree_of (entries ms)) ∥₁) same c.args.self.now.is_valid }

pub returns-clause-tree : goal.returns-clause-tree
returns-clause-tree c =
    let ns : List Node = c.args.self.now.nodes.items in
    let some : entries ns ≢ [] = λ e. c.requires (entries_nil ns e) in
    listed_tree-some (entries ns) some ∙ ap (λ (ms : List Node). Some (tree_of (entries ms))) (sym c.nodes.ensures)

pub returns-clause-is_valid : goal.returns-clause-is_valid
returns-clause-is_valid c =
    let ns : List Node = c.args.self.now.nodes.items in
    subst (λ (ms : List Node). IsValidTree (tree_of (entries ms))) (sym c.nodes.ensures) (tree_found (tree_of (entries ns)) c.args.self.now.is_valid)
