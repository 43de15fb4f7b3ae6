use Rattle.sj_parse.proofs.deserializer.Deserializer.is_empty.Goals as goal

pub returns : goal.returns
returns c = c.is_empty.ensures
