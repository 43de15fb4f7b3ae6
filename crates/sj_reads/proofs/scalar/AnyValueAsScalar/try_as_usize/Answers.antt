use Rattle.std.proofs.Common.{rules}
use Rattle.sj_reads.proofs.scalar.AnyValueAsScalar.try_as_usize.Goals as goal

pub returns : goal.returns
returns c = search rules
