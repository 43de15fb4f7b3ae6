use Rattle.std.proofs.Common.{rules}
use Rattle.sj_lazy.proofs.into.Value.into_string.Goals as goal

pub returns-in-Some-clause-ok : goal.returns-in-Some-clause-ok
returns-in-Some-clause-ok c = search rules
