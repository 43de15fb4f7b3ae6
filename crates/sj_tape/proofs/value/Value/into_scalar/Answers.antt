use Rattle.std.proofs.Common.{rules}
use Rattle.sj_tape.specs.Listed.{tree_of}
use Rattle.sj_tape.proofs.value.Value.into_scalar.Goals as goal

pub returns-in-None-clause-tree : goal.returns-in-None-clause-tree
unfolding tree_of
returns-in-None-clause-tree c = search rules
