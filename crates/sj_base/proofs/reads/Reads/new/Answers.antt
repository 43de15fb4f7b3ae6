use Rattle.std.proofs.Common.{rules}
use Rattle.sj_base.proofs.reads.Reads.new.Goals as goal

pub returns-clause-items : goal.returns-clause-items
returns-clause-items c = search rules
