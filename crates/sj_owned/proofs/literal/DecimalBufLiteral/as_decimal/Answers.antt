use Rattle.sj_owned.proofs.literal.DecimalBufLiteral.as_decimal.Goals as goal

pub returns : goal.returns
returns c = c.as_decimal.ensures
