use Rattle.std.proofs.Common.{sym, ap, ◌∙◌, ◌++◌, take, append-nil}
use Rattle.sj_base.proofs.Literals.{digits-end}
use Rattle.sj_base.proofs.number.split_digits.Goals as goal

pub returns-then-not-is_ascii_digit-clause-digits : goal.returns-then-not-is_ascii_digit-clause-digits
returns-then-not-is_ascii_digit-clause-digits c =
    let i = c.loop-place.place in
    let bytes = c.args.bytes.now in
    let end = digits-end bytes i c.loop-place-test.true (sym c.is_ascii_digit.ensures.value ∙ c.if-not-is_ascii_digit.true) in
    c.split_at.ensures.front ∙ sym (c.loop-place.invariant.0 ∙ ap (λ ds. take i bytes ++ ds) end.0 ∙ append-nil (take i bytes))

pub returns-then-not-is_ascii_digit-clause-behind : goal.returns-then-not-is_ascii_digit-clause-behind
returns-then-not-is_ascii_digit-clause-behind c =
    let end = digits-end c.args.bytes.now c.loop-place.place c.loop-place-test.true (sym c.is_ascii_digit.ensures.value ∙ c.if-not-is_ascii_digit.true) in
    c.split_at.ensures.back ∙ sym (c.loop-place.invariant.1 ∙ end.1)
