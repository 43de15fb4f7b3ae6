use Rattle.sj_tape.proofs.ChildTrees.{pair_keys}
use Rattle.sj_tape.proofs.object.Object.keys.Goals as goal

pub returns-clause-keys : goal.returns-clause-keys
returns-clause-keys c = pair_keys _ _ c.iter.ensures.members
