use Rattle.std.proofs.Common.{sym, subst}
use Rattle.sj_base.specs.Number.{IsDecimal}
use Rattle.sj_base.proofs.NumberBytes.{decimal_bytes}
use Rattle.sj_base.proofs.Utf8.{number_utf8}
use Rattle.sj_base.proofs.decimal.Decimal.from_bytes_unchecked.Goals as goal

pub from_utf8_unchecked-requires : goal.from_utf8_unchecked-requires
from_utf8_unchecked-requires c = number_utf8 c.args.bytes.now (decimal_bytes c.args.bytes.now c.requires)

pub invariant_of-result : goal.invariant_of-result
invariant_of-result c = record { is_decimal = ∣ subst IsDecimal (sym c.from_utf8_unchecked.ensures) c.requires ∣₁ }
