use Rattle.std.proofs.Common.{rules}
use Rattle.sj_base.proofs.reads.Reads.at.Goals as goal

pub returns-clause-places : goal.returns-clause-places
returns-clause-places c = search rules
