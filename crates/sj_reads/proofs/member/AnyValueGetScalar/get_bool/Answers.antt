use Rattle.std.proofs.Common.{rules}
use Rattle.sj_reads.proofs.member.AnyValueGetScalar.get_bool.Goals as goal

pub returns : goal.returns
returns c = search rules
