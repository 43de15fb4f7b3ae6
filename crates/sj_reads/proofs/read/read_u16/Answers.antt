use Rattle.std.proofs.Common.{rules}
use Rattle.sj_reads.proofs.read.read_u16.Goals as goal

pub returns : goal.returns
returns c = search rules
