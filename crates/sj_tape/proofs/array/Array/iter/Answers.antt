use Rattle.sj_tape.proofs.ChildTrees.{item_runs-trees, length-item_runs}
use Rattle.sj_tape.proofs.array.Array.iter.Goals as goal

pub returns-clause-items : goal.returns-clause-items
returns-clause-items c = item_runs-trees c.args.self.now.len c.args.self.now.nodes.now c.args.self.now.items

pub returns-clause-count : goal.returns-clause-count
returns-clause-count c = length-item_runs c.args.self.now.len c.args.self.now.nodes.now c.args.self.now.items
