use Rattle.std.proofs.Common.{rules}
use Rattle.records_program.proofs.fault.FaultFromRunError.from.Goals as goal

pub returns-in-Read : goal.returns-in-Read
returns-in-Read c = search rules
