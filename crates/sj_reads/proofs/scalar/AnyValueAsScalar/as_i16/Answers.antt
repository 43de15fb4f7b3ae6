use Rattle.std.proofs.Common.{rules}
use Rattle.sj_reads.proofs.scalar.AnyValueAsScalar.as_i16.Goals as goal

pub returns : goal.returns
returns c = search rules
