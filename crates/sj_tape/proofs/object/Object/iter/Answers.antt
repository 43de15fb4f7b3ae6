use Rattle.sj_tape.proofs.ChildTrees.{member_runs-trees, length-member_runs}
use Rattle.sj_tape.proofs.object.Object.iter.Goals as goal

pub returns-clause-members : goal.returns-clause-members
returns-clause-members c = member_runs-trees c.args.self.now.len c.args.self.now.nodes.now c.args.self.now.members

pub returns-clause-count : goal.returns-clause-count
returns-clause-count c = length-member_runs c.args.self.now.len c.args.self.now.nodes.now c.args.self.now.members
