use Rattle.std.proofs.Common.{rules}
use Rattle.records_program.proofs.counted.run_counted.Goals as goal

pub returns-clause-stands : goal.returns-clause-stands
returns-clause-stands g c = search rules
