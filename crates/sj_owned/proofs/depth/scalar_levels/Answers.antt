use Rattle.std.proofs.Common.{rules}
use Rattle.sj_base.proofs.Carriers.{IsDecimal-decimal_text}
use Rattle.sj_owned.proofs.depth.scalar_levels.Goals as goal

pub returns-in-Literal-clause-valid : goal.returns-in-Literal-clause-valid
returns-in-Literal-clause-valid c = rw c.in-Literal.is (IsDecimal-decimal_text c.in-Literal._literal)

pub returns-in-Text-clause-levels : goal.returns-in-Text-clause-levels
returns-in-Text-clause-levels c = search rules
