use Rattle.sj_base.proofs.Carriers.{IsDecimal-decimal_text}
use Rattle.sj_tape.proofs.node.Node.scalar.Goals as goal

pub returns-in-Decimal-clause-is_valid : goal.returns-in-Decimal-clause-is_valid
returns-in-Decimal-clause-is_valid c = IsDecimal-decimal_text c.in-Decimal.literal
