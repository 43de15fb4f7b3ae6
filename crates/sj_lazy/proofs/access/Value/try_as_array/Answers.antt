use Rattle.std.proofs.Common.{rules}
use Rattle.sj_lazy.proofs.access.Value.try_as_array.Goals as goal

pub returns-in-Some-clause-tree : goal.returns-in-Some-clause-tree
returns-in-Some-clause-tree c = search rules
