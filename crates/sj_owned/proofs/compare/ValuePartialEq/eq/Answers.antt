use Rattle.std.proofs.Common.{rules}
use Rattle.sj_owned.proofs.compare.ValuePartialEq.eq.Goals as goal

pub returns-clause-value : goal.returns-clause-value
returns-clause-value g c = search rules

pub returns-clause-trees : goal.returns-clause-trees
returns-clause-trees g c = search rules
