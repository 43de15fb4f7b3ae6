use Rattle.std.proofs.Common.{rules}
use Rattle.sj_lazy.proofs.access.Value.as_array.Goals as goal

pub returns-in_ok-as_array-in-Value-clause-part : goal.returns-in_ok-as_array-in-Value-clause-part
returns-in_ok-as_array-in-Value-clause-part c = search rules
