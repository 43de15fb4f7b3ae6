use Rattle.std.specs.Prelude.{◌≡◌, true}
use Rattle.std.proofs.Common.{sym, ◌∙◌, arith, rules}
use Rattle.sj_base.specs.NumberTests.{is_negative}
use Rattle.sj_parse.proofs.NumberLemmas.{is_integer-below, is_integer-above}
use Rattle.sj_parse.proofs.numbers.in_range.Goals as goal

pub returns-in_err-value : goal.returns-in_err-value
returns-in_err-value c =
    let large = rw c.split_minus-negative.ensures.magnitude at c.in_err-value.ensures in
    rw c.from_residual.ensures (is_integer-above c.args.text.now large)

pub returns-in_err-checked_sub_unsigned : goal.returns-in_err-checked_sub_unsigned
returns-in_err-checked_sub_unsigned c =
    let parts = c.split_minus-negative.ensures in
    let found = rw parts.magnitude at c.in_ok-value.ensures in
    let negative : is_negative c.args.text.now ≡ true = sym parts.negative ∙ c.if-negative.true in
    rw c.from_residual-in_err-checked_sub_unsigned.ensures (is_integer-below c.args.text.now negative (λ le. c.in_err-checked_sub_unsigned.ensures (search (arith, rules))))

pub returns-in_ok-checked_sub_unsigned : goal.returns-in_ok-checked_sub_unsigned
returns-in_ok-checked_sub_unsigned c = search (arith, rules)

pub returns-else-negative : goal.returns-else-negative
returns-else-negative c = search rules
