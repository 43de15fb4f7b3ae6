use Rattle.std.proofs.Common.{refl, sym, ◌∙◌}
use Rattle.std.proofs.lemmas.Bool.{false≢true}
use Rattle.sj_base.proofs.Literals.{IsDecimal-from_is_decimal, is_decimal-from_IsDecimal}
use Rattle.sj_base.proofs.decimal.Decimal.from_bytes.Goals as goal

pub from_bytes_unchecked-requires : goal.from_bytes_unchecked-requires
from_bytes_unchecked-requires c = IsDecimal-from_is_decimal c.args.bytes.now (sym c.is_decimal.ensures ∙ c.if-is_decimal.true)

pub returns-then-is_decimal-clause-accepts : goal.returns-then-is_decimal-clause-accepts
returns-then-is_decimal-clause-accepts c =
    (λ e. IsDecimal-from_is_decimal c.args.bytes.now (sym c.is_decimal.ensures ∙ c.if-is_decimal.true), λ d. refl)

pub returns-else-is_decimal-clause-accepts : goal.returns-else-is_decimal-clause-accepts
returns-else-is_decimal-clause-accepts c =
    (λ e. absurd (false≢true e), λ d. sym (c.if-is_decimal.false) ∙ c.is_decimal.ensures ∙ is_decimal-from_IsDecimal c.args.bytes.now d)
