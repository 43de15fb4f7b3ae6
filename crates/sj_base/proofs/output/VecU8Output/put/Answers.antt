use Rattle.std.proofs.Common.{rules}
use Rattle.sj_base.proofs.output.VecU8Output.put.Goals as goal

pub returns : goal.returns
returns c = search rules
