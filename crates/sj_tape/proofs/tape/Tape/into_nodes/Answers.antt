use Rattle.std.proofs.Common.{rules}
use Rattle.sj_tape.proofs.tape.Tape.into_nodes.Goals as goal

pub returns-clause-nodes : goal.returns-clause-nodes
returns-clause-nodes c = search rules
