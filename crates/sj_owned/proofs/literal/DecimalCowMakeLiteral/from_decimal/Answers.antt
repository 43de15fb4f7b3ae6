use Rattle.std.proofs.Common.{refl}
use Rattle.sj_owned.proofs.literal.DecimalCowMakeLiteral.from_decimal.Goals as goal

pub returns-clause-text : goal.returns-clause-text
returns-clause-text c = refl
