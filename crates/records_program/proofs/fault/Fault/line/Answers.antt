use Rattle.std.proofs.Common.{rules}
use Rattle.records_program.proofs.fault.Fault.line.Goals as goal

pub returns-in-Unreadable : goal.returns-in-Unreadable
returns-in-Unreadable c = search rules
