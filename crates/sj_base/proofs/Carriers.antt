-- The text of a decimal literal is one.
use Rattle.sj_base.specs.Number.{IsDecimal}
use Rattle.sj_base.specs.Scalar.{decimal_text}
use Rattle.sj_base.specs.declared.decimal.Decimal.{Decimal}
use Rattle.sj_base.proofs.Literals.{found}

pub IsDecimal-decimal_text : (d : Decimal) → IsDecimal (decimal_text d)
IsDecimal-decimal_text d = found (decimal_text d) d.is_decimal
