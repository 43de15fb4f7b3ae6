use Rattle.std.specs.Prelude.{◌≡◌, false}
use Rattle.sj_base.specs.NumberTests.{is_integer}
use Rattle.sj_base.proofs.Literals.{IsDecimal-from_is_decimal}
use Rattle.sj_parse.proofs.NumberLemmas.{large_decimal}
use Rattle.sj_parse.proofs.numbers.integer.Goals as goal

pub from_bytes_unchecked-requires : goal.from_bytes_unchecked-requires
from_bytes_unchecked-requires c =
    let none : is_integer c.args.text.now ≡ false = rw c.in-None.is at c.in_range.ensures in
    IsDecimal-from_is_decimal c.args.text.now (large_decimal c.args.text.now c.requires none)

pub returns-in-None : goal.returns-in-None
returns-in-None c =
    let none : is_integer c.args.text.now ≡ false = rw c.in-None.is at c.in_range.ensures in
    (none, large_decimal c.args.text.now c.requires none, c.from_bytes_unchecked.ensures)
