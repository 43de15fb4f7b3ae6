use Rattle.std.proofs.Common.{rules}
use Rattle.sj_values.proofs.borrowed.to_value_with_buffers.Goals as goal

pub returns-clause-answers : goal.returns-clause-answers
returns-clause-answers c = search rules

pub returns-clause-scanned : goal.returns-clause-scanned
returns-clause-scanned c = search rules

pub returns-clause-texts : goal.returns-clause-texts
returns-clause-texts c = search rules
