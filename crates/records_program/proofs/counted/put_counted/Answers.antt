use Rattle.std.proofs.Common.{rules}
use Rattle.records_program.proofs.counted.put_counted.Goals as goal

pub returns-clause-ok : goal.returns-clause-ok
returns-clause-ok g c = search rules

pub returns-clause-err : goal.returns-clause-err
returns-clause-err g c = search rules
