use Rattle.std.proofs.lemmas.Grind.{common_steps}
use Rattle.std.proofs.Common.{arith}
use Rattle.sj_base.proofs.stream.Tally.add_err.Goals as goal

pub returns-else-eq-clause-counts : goal.returns-else-eq-clause-counts
returns-else-eq-clause-counts c = grind (arith, common_steps)
