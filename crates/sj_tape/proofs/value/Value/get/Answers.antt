use Rattle.std.proofs.Common.{rules}
use Rattle.sj_tape.proofs.value.Value.get.Goals as goal

pub returns-clause-tree : goal.returns-clause-tree
returns-clause-tree c = search rules

pub returns-clause-nodes : goal.returns-clause-nodes
returns-clause-nodes c = search rules
