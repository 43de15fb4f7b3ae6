use Rattle.sj_tape.specs.Nodes.{entries}
use Rattle.sj_tape.specs.Views.{tape_nodes, value_tree, array_items, object_members}
use Rattle.sj_tape.proofs.ValidTrees.{tape_found, tree_found, items_found, members_found}
use Rattle.sj_tape.proofs.laws.trees_of_views.Goals as goal

pub returns-clause-values : goal.returns-clause-values
returns-clause-values c = λ v. tree_found (value_tree v) v.is_valid

pub returns-clause-arrays : goal.returns-clause-arrays
returns-clause-arrays c = λ a. items_found (array_items a) a.are_valid

pub returns-clause-objects : goal.returns-clause-objects
returns-clause-objects c = λ o. members_found (object_members o) o.are_valid

pub returns-clause-tapes : goal.returns-clause-tapes
returns-clause-tapes c = λ tape. tape_found (entries (tape_nodes tape)) tape.is_valid
