use Rattle.std.proofs.Common.{rules}
use Rattle.records_program.proofs.program.run_script.Goals as goal

pub returns-in_err-ran-clause-stands : goal.returns-in_err-ran-clause-stands
returns-in_err-ran-clause-stands g c = search rules
