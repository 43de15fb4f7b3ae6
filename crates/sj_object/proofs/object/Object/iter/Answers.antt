use Rattle.std.proofs.Common.{rules}
use Rattle.sj_object.proofs.object.Object.iter.Goals as goal

pub returns : goal.returns
returns c = search rules
