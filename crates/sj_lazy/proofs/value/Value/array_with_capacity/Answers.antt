use Rattle.std.proofs.Common.{rules}
use Rattle.sj_lazy.proofs.value.Value.array_with_capacity.Goals as goal

pub returns-clause-empty : goal.returns-clause-empty
returns-clause-empty c = search rules

pub returns-clause-room : goal.returns-clause-room
returns-clause-room c = search rules
