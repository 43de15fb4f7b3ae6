use Rattle.sj_base.proofs.Trees.{only_trees}
use Rattle.sj_base.proofs.Utf8.{only_utf8}
use Rattle.sj_base.proofs.laws.spelled.Goals as goal

-- what is spelled is a tree
pub returns-clause-tree : goal.returns-clause-tree
returns-clause-tree c = only_trees

-- what spells it is UTF-8
pub returns-clause-utf8 : goal.returns-clause-utf8
returns-clause-utf8 c = only_utf8
