use Rattle.std.specs.Prelude.{◌≡◌, true}
use Rattle.sj_base.specs.NumberTests.{is_decimal}
use Rattle.sj_base.proofs.Literals.{IsDecimal-from_is_decimal}
use Rattle.sj_parse.proofs.NumberLemmas.{is_integer-decimal}
use Rattle.sj_parse.proofs.numbers.number.Goals as goal

pub from_bytes_unchecked-requires : goal.from_bytes_unchecked-requires
from_bytes_unchecked-requires c = IsDecimal-from_is_decimal c.args.text.now (rw c.in-Decimal.is at c.requires)

pub returns-in-Decimal : goal.returns-in-Decimal
returns-in-Decimal c =
    let decimal : is_decimal c.args.text.now ≡ true = rw c.in-Decimal.is at c.requires in
    (is_integer-decimal c.args.text.now decimal, decimal, c.from_bytes_unchecked.ensures)
