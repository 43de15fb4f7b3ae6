use Rattle.std.proofs.Common.{arith, rules, sym}
use Rattle.sj_tape.proofs.Children.{item_nodes-none, item_at-none}
use Rattle.sj_tape.proofs.array.Array.get.Goals as goal

pub returns-then-index-self-clause-tree : goal.returns-then-index-self-clause-tree
returns-then-index-self-clause-tree c =
    let same = c.args.self.now.items.1 in
    sym (item_at-none _ c.args.index (omega (arith, same)))

pub returns-then-index-self-clause-nodes : goal.returns-then-index-self-clause-nodes
returns-then-index-self-clause-nodes c =
    sym (item_nodes-none c.args.self.now.len c.args.self.now.nodes.now c.args.index (omega arith))

pub overflow_sub-left : goal.overflow_sub-left
overflow_sub-left c = search rules

pub loop-first-smaller : goal.loop-first-smaller
loop-first-smaller c = search rules

pub loop-first-preserved : goal.loop-first-preserved
loop-first-preserved c = search rules
