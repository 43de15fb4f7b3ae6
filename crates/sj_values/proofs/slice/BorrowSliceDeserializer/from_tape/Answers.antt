use Rattle.std.proofs.Common.{rules}
use Rattle.sj_values.proofs.slice.BorrowSliceDeserializer.from_tape.Goals as goal

pub returns-clause-start : goal.returns-clause-start
returns-clause-start c = search rules
