use Rattle.std.proofs.Common.{rules}
use Rattle.sj_owned.proofs.same_as.ValueSameAs.same_as.Goals as goal

pub returns : goal.returns
returns c = search rules
