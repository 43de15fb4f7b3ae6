use Rattle.std.proofs.Common.{rules}
use Rattle.sj_tape.proofs.value.Value.try_get.Goals as goal

pub returns-in-Some-clause-tree : goal.returns-in-Some-clause-tree
returns-in-Some-clause-tree c = search rules

pub returns-in-Some-clause-nodes : goal.returns-in-Some-clause-nodes
returns-in-Some-clause-nodes c = search rules
