use Rattle.std.proofs.Common.{rules}
use Rattle.sj_lazy.proofs.value.Value.null.Goals as goal

pub returns-clause-tape : goal.returns-clause-tape
returns-clause-tape c = search rules
