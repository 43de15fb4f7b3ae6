use Rattle.std.proofs.Common.{rules}
use Rattle.sj_base.proofs.scalar.Scalar.same.Goals as goal

pub returns-in-Literal-Literal-clause-value : goal.returns-in-Literal-Literal-clause-value
returns-in-Literal-Literal-clause-value c = search rules

pub returns-in-Literal-Literal-clause-same_tree : goal.returns-in-Literal-Literal-clause-same_tree
returns-in-Literal-Literal-clause-same_tree c = search rules
