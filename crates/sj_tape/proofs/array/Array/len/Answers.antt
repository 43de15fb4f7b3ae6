use Rattle.std.proofs.Common.{rules}
use Rattle.sj_tape.proofs.array.Array.len.Goals as goal

pub returns : goal.returns
returns c = search rules
