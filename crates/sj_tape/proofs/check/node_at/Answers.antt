use Rattle.std.proofs.Common.{arith}
use Rattle.sj_tape.proofs.NodeLists.{entries_at}
use Rattle.sj_tape.proofs.check.node_at.Goals as goal

pub returns : goal.returns
returns c =
    let found = c.in_ok-get.ensures.lookup in
    (omega arith, entries_at c.args.nodes.now c.args.at c.in_ok-get.field-0.now (omega arith) found.1)
