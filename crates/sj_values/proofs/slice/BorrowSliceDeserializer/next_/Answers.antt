use Rattle.std.proofs.Common.{rules}
use Rattle.sj_values.proofs.slice.BorrowSliceDeserializer.next_.Goals as goal

pub returns-clause-next : goal.returns-clause-next
returns-clause-next c = search rules
