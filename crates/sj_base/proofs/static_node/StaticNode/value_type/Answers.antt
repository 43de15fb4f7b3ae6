use Rattle.sj_base.proofs.static_node.StaticNode.value_type.Goals as goal

pub returns-in-U64 : goal.returns-in-U64
returns-in-U64 c = cc
