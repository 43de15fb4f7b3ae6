use Rattle.std.proofs.Common.{rules}
use Rattle.sj_base.proofs.static_node.StaticNodePartialEq.eq.Goals as goal

pub returns-in-I64-U64-clause-value : goal.returns-in-I64-U64-clause-value
returns-in-I64-U64-clause-value c = search rules

pub returns-in-I64-U64-clause-same_tree : goal.returns-in-I64-U64-clause-same_tree
returns-in-I64-U64-clause-same_tree c = search rules
