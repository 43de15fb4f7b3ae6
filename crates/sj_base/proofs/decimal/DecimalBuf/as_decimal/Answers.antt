use Rattle.sj_base.proofs.decimal.DecimalBuf.as_decimal.Goals as goal

pub returns : goal.returns
returns c = cc
