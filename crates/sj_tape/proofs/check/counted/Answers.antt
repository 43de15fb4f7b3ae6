use Rattle.std.proofs.Common.{rules}
use Rattle.sj_tape.proofs.check.counted.Goals as goal

pub returns : goal.returns
returns c = search rules
