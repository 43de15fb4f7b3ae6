use Rattle.std.proofs.Common.{◌∙◌, arith, add-one}
use Rattle.sj_parse.proofs.DigitValues.{next}
use Rattle.sj_parse.proofs.digits.value_after.Goals as goal

pub overflow_mul-value : goal.overflow_mul-value
overflow_mul-value c =
    let at_most = (next c.loop-digit.value c.loop-digit.digit-index c.args.digits.now c.loop-digit-test.true c.loop-digit.invariant.digits).at_most in
    omega (arith, at_most, c.loop-digit.invariant.value, c.requires.fits)

pub overflow_sub-digit : goal.overflow_sub-digit
overflow_sub-digit c =
    let digit = (next c.loop-digit.value c.loop-digit.digit-index c.args.digits.now c.loop-digit-test.true c.loop-digit.invariant.digits).digit in
    omega (arith, digit.0)

pub overflow_add-value : goal.overflow_add-value
overflow_add-value c =
    let at_most = (next c.loop-digit.value c.loop-digit.digit-index c.args.digits.now c.loop-digit-test.true c.loop-digit.invariant.digits).at_most in
    omega (arith, at_most, c.loop-digit.invariant.value, c.from.ensures, c.requires.fits)

pub loop-digit-preserved : goal.loop-digit-preserved
loop-digit-preserved c =
    let p = next c.loop-digit.value c.loop-digit.digit-index c.args.digits.now c.loop-digit-test.true c.loop-digit.invariant.digits in
    rw (add-one, c.from.ensures) (record { digits = p.others; value = p.value ∙ c.loop-digit.invariant.value })
