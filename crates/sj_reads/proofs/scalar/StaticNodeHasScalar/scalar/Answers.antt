use Rattle.std.proofs.Common.{refl}
use Rattle.sj_reads.proofs.scalar.StaticNodeHasScalar.scalar.Goals as goal

pub returns-clause-tree : goal.returns-clause-tree
returns-clause-tree c = refl
