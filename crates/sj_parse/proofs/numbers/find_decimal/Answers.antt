use Rattle.std.proofs.Common.{refl, sym, ap, ◌∙◌}
use Rattle.std.proofs.lemmas.Bool.{false≢true, false_from_ne_true}
use Rattle.sj_base.specs.NumberTests.{is_decimal}
use Rattle.sj_base.proofs.Literals.{IsDecimal-from_is_decimal, is_decimal-from_IsDecimal}
use Rattle.sj_parse.specs.Token.{word}
use Rattle.sj_parse.proofs.numbers.find_decimal.Goals as goal

pub returns-in-Some-clause-shape : goal.returns-in-Some-clause-shape
returns-in-Some-clause-shape c = sym (ap is_decimal c.word_len-len.ensures.word) ∙ is_decimal-from_IsDecimal _ (c.in-Some.ensures.accepts.0 refl)

pub returns-in-None-clause-none : goal.returns-in-None-clause-none
returns-in-None-clause-none c = false_from_ne_true (is_decimal (word c.args.bytes.now)) (λ e.
    false≢true (c.in-None.ensures.accepts.1 (IsDecimal-from_is_decimal _ (ap is_decimal c.word_len-len.ensures.word ∙ e))))
