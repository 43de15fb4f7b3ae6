use Rattle.std.proofs.Common.{rules}
use Rattle.sj_base.proofs.try_copy.CowStrTryCopy.try_clone.Goals as goal

pub returns : goal.returns
returns c = search rules
