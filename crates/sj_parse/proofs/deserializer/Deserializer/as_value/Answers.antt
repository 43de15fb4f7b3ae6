use Rattle.sj_parse.proofs.deserializer.Deserializer.as_value.Goals as goal

pub returns-clause-nodes : goal.returns-clause-nodes
returns-clause-nodes c = c.as_value.ensures.nodes
