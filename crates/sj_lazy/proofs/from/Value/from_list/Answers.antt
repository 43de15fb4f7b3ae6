use Rattle.std.proofs.Common.{rules}
use Rattle.sj_lazy.proofs.from.Value.from_list.Goals as goal

pub returns : goal.returns
returns g c = search rules
