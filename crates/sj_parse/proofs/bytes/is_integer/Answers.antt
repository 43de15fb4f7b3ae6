use Rattle.sj_parse.proofs.bytes.is_integer.Goals as goal

pub returns : goal.returns
returns c = cc
