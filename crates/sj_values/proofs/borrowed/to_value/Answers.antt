use Rattle.std.proofs.Common.{rules}
use Rattle.sj_values.proofs.borrowed.to_value.Goals as goal

pub returns-clause-answers : goal.returns-clause-answers
returns-clause-answers c = search rules

pub returns-clause-too_large : goal.returns-clause-too_large
returns-clause-too_large c = search rules
