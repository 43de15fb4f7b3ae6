use Rattle.sj_parse.proofs.deserializer.Deserializer.next_value.Goals as goal

pub returns-clause-nodes : goal.returns-clause-nodes
returns-clause-nodes c = c.value_at.ensures.nodes

pub returns-clause-listed : goal.returns-clause-listed
returns-clause-listed c = c.value_at.ensures.listed
