use Rattle.sj_base.proofs.Carriers.{IsDecimal-decimal_text}
use Rattle.sj_base.proofs.decimal.Decimal.as_str.Goals as goal

pub returns-clause-is_decimal : goal.returns-clause-is_decimal
returns-clause-is_decimal c = IsDecimal-decimal_text c.args.self.now
