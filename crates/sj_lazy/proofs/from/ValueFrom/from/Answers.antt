use Rattle.std.proofs.Common.{rules}
use Rattle.sj_lazy.proofs.from.ValueFrom.from.Goals as goal

pub returns : goal.returns
returns g c = search rules
