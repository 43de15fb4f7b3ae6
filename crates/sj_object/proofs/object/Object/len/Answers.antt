use Rattle.std.proofs.Common.{rules}
use Rattle.sj_object.proofs.object.Object.len.Goals as goal

pub returns-clause-len : goal.returns-clause-len
returns-clause-len c = search rules
