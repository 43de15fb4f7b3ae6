use Rattle.std.proofs.Common.{rules}
use Rattle.sj_parse.proofs.reading.fill_tape_padded.Goals as goal

pub returns-clause-answers : goal.returns-clause-answers
returns-clause-answers c = search rules

pub returns-clause-scanned : goal.returns-clause-scanned
returns-clause-scanned c = search rules
