use Rattle.std.proofs.Common.{rules}
use Rattle.sj_values.proofs.slice.BorrowSliceDeserializer.is_at_end.Goals as goal

pub returns : goal.returns
returns c = search rules
