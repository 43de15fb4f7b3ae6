use Rattle.std.proofs.Common.{sym, ◌∙◌}
use Rattle.sj_tape.proofs.ChildTrees.{length-item_runs}
use Rattle.sj_tape.proofs.array.IterExactSizeIterator.len.Goals as goal

pub returns-clause-value : goal.returns-clause-value
returns-clause-value c =
    let a = c.args.self.now.rest in
    c.len.ensures ∙ sym (length-item_runs a.len a.nodes.now a.items)
