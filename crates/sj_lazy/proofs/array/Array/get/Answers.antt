use Rattle.std.proofs.Common.{rules}
use Rattle.sj_lazy.proofs.array.Array.get.Goals as goal

pub returns-in-Tape-clause-tree : goal.returns-in-Tape-clause-tree
returns-in-Tape-clause-tree c = search rules
