use Rattle.std.proofs.lemmas.Grind.{common_steps}
use Rattle.std.proofs.Common.{arith}
use Rattle.sj_base.proofs.put.put_int.Goals as goal

pub returns : goal.returns
returns c = grind (arith, common_steps)
