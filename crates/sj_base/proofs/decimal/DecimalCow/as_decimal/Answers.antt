use Rattle.sj_base.proofs.decimal.DecimalCow.as_decimal.Goals as goal

pub returns-in-Owned : goal.returns-in-Owned
returns-in-Owned c = cc
