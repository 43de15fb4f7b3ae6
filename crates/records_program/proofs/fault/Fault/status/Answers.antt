use Rattle.std.proofs.Common.{rules}
use Rattle.records_program.proofs.fault.Fault.status.Goals as goal

pub returns-in-Memory : goal.returns-in-Memory
returns-in-Memory c = search rules

pub returns-in-Memory-2 : goal.returns-in-Memory-2
returns-in-Memory-2 c = search rules

pub returns-in-Memory-3 : goal.returns-in-Memory-3
returns-in-Memory-3 c = search rules
