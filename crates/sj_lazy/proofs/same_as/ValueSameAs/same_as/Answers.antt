use Rattle.std.proofs.Common.{rules}
use Rattle.sj_lazy.proofs.same_as.ValueSameAs.same_as.Goals as goal

pub returns : goal.returns
returns g c = search rules
