use Rattle.std.proofs.Common.{rules}
use Rattle.sj_lazy.proofs.access.Value.is_array.Goals as goal

pub returns : goal.returns
returns c = search rules
