use Rattle.std.proofs.Common.{◌∙◌, ap, ap₂, arith}
use Rattle.std.specs.Prelude.{ℕ, ◌+◌, ◌*◌, List}
use Rattle.std.specs.Str.{all_ascii_digits}
use Rattle.std.specs.Str.Parse.{digits_value, digits_value_after}
use Rattle.sj_parse.proofs.DigitValues.{few_digits, next_eight}
use Rattle.sj_parse.proofs.digits.value_of.Goals as goal

pub value_of_word-requires : goal.value_of_word-requires
value_of_word-requires c =
    let read = next_eight c.loop-word.value c.loop-word.rest.now (omega (arith, c.in-Some.ensures.cases.2)) c.loop-word.invariant.digits in
    ap all_ascii_digits c.in-Some.ensures.cases.0 ∙ read.digits

pub overflow_mul-value : goal.overflow_mul-value
overflow_mul-value c =
    let read = next_eight c.loop-word.value c.loop-word.rest.now (omega (arith, c.in-Some.ensures.cases.2)) c.loop-word.invariant.digits in
    let small = few_digits c.args.digits.now c.requires.digits c.requires.few in
    omega (arith, small, read.at_most, c.loop-word.invariant.value)

pub overflow_add-value : goal.overflow_add-value
overflow_add-value c =
    let read = next_eight c.loop-word.value c.loop-word.rest.now (omega (arith, c.in-Some.ensures.cases.2)) c.loop-word.invariant.digits in
    let small = few_digits c.args.digits.now c.requires.digits c.requires.few in
    omega (arith, small, read.at_most, c.loop-word.invariant.value, c.value_of_word.ensures ∙ ap (digits_value 10) c.in-Some.ensures.cases.0)

pub loop-word-preserved : goal.loop-word-preserved
loop-word-preserved c =
    let read = next_eight c.loop-word.value c.loop-word.rest.now (omega (arith, c.in-Some.ensures.cases.2)) c.loop-word.invariant.digits in
    let word = c.value_of_word.ensures ∙ ap (digits_value 10) c.in-Some.ensures.cases.0 in
    record {
      digits = ap all_ascii_digits c.in-Some.ensures.cases.1 ∙ read.others;
      value = ap₂ (λ (n : ℕ) (ds : List ℕ). digits_value_after 10 (c.loop-word.value * 100000000 + n) ds) word c.in-Some.ensures.cases.1 ∙ read.value ∙ c.loop-word.invariant.value;
    }

pub value_after-requires : goal.value_after-requires
value_after-requires c =
    let small = few_digits c.args.digits.now c.requires.digits c.requires.few in
    let read = c.loop-word.invariant in
    record { digits = read.digits; fits = omega (arith, small, read.value) }
