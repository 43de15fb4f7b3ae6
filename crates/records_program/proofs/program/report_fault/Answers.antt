use Rattle.std.proofs.Common.{rules}
use Rattle.records_program.proofs.program.report_fault.Goals as goal

pub returns-clause-told : goal.returns-clause-told
returns-clause-told g c = search rules
