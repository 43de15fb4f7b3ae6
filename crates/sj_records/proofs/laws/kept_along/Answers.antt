use Rattle.sj_records.proofs.KeptAlong.{bases_are_kept, trees_are_kept}
use Rattle.sj_records.proofs.laws.kept_along.Goals as goal

pub returns-clause-bases : goal.returns-clause-bases
returns-clause-bases c = bases_are_kept

pub returns-clause-trees : goal.returns-clause-trees
returns-clause-trees c = trees_are_kept
