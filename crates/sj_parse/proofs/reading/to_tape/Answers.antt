use Rattle.std.proofs.Common.{rules}
use Rattle.sj_parse.proofs.reading.to_tape.Goals as goal

pub returns-clause-answers : goal.returns-clause-answers
returns-clause-answers c = search rules
