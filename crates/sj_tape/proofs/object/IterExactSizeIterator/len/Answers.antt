use Rattle.std.proofs.Common.{sym, ◌∙◌}
use Rattle.sj_tape.proofs.ChildTrees.{length-member_runs}
use Rattle.sj_tape.proofs.object.IterExactSizeIterator.len.Goals as goal

pub returns-clause-value : goal.returns-clause-value
returns-clause-value c =
    let o = c.args.self.now.rest in
    c.len.ensures ∙ sym (length-member_runs o.len o.nodes.now o.members)
