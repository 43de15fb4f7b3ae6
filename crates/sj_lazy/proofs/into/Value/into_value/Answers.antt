use Rattle.std.proofs.Common.{rules}
use Rattle.sj_lazy.proofs.into.Value.into_value.Goals as goal

pub returns-in-Value-Owned-clause-ok : goal.returns-in-Value-Owned-clause-ok
returns-in-Value-Owned-clause-ok c = search rules
