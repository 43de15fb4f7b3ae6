use Rattle.sj_base.proofs.error.Error.at.Goals as goal

pub returns : goal.returns
returns c = cc
