use Rattle.sj_tape.proofs.ChildTrees.{children_by_counts}
use Rattle.sj_tape.proofs.laws.children_by_counts.Goals as goal

pub returns : goal.returns
returns c = children_by_counts
