use Rattle.sj_object.proofs.key.StringObjectKey.as_text.Goals as goal

pub returns : goal.returns
returns c = cc
