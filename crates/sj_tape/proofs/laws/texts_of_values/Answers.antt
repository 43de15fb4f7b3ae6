use Rattle.sj_tape.specs.Views.{value_tree}
use Rattle.sj_tape.proofs.ValidTrees.{tree_found}
use Rattle.sj_tape.proofs.laws.texts_of_values.Goals as goal

pub returns-clause-compact : goal.returns-clause-compact
returns-clause-compact c = λ v. c.printing_reads_back.ensures.compact (value_tree v) (tree_found (value_tree v) v.is_valid)

pub returns-clause-indented : goal.returns-clause-indented
returns-clause-indented c = λ v. c.printing_reads_back.ensures.indented (value_tree v) (tree_found (value_tree v) v.is_valid)
