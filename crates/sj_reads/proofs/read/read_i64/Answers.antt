use Rattle.std.proofs.Common.{rules}
use Rattle.sj_reads.proofs.read.read_i64.Goals as goal

pub returns-in-Static-U64 : goal.returns-in-Static-U64
returns-in-Static-U64 c = search rules
