use Rattle.std.proofs.Common.{rules}
use Rattle.sj_tape.proofs.tape.Tape.nodes.Goals as goal

pub returns : goal.returns
returns c = search rules
