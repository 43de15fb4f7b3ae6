use Rattle.std.proofs.Common.{rules}
use Rattle.sj_lazy.proofs.edit.Value.as_array_mut.Goals as goal

pub returns-clause-part : goal.returns-clause-part
returns-clause-part c = search rules
