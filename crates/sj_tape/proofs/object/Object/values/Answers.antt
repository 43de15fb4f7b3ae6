use Rattle.sj_tape.proofs.ChildTrees.{pair_values}
use Rattle.sj_tape.proofs.object.Object.values.Goals as goal

pub returns-clause-values : goal.returns-clause-values
returns-clause-values c = pair_values _ _ c.iter.ensures.members
