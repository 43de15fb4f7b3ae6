use Rattle.std.proofs.lemmas.Grind.{common_steps}
use Rattle.std.proofs.Common.{arith}
use Rattle.sj_base.proofs.buffer.TextBufferOutput.put_plain_key.Goals as goal

pub returns-then-plain-clause-ok : goal.returns-then-plain-clause-ok
returns-then-plain-clause-ok c = grind (arith, common_steps)
