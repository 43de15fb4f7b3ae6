use Rattle.std.specs.Prelude.{◌≡◌, false, not, ◌&&◌}
use Rattle.std.proofs.Common.{sym, ap, ◌∙◌}
use Rattle.sj_base.specs.NumberTests.{is_empty, front_digits, behind_digits}
use Rattle.sj_base.proofs.Literals.{is_empty-length, is_digits-parts}
use Rattle.sj_base.proofs.number.is_digits.Goals as goal

pub returns-then-not-is_empty : goal.returns-then-not-is_empty
returns-then-not-is_empty c =
    let bytes = c.args.bytes.now in
    let some : is_empty (front_digits bytes) ≡ false =
    ap is_empty (sym c.split_digits.ensures.digits) ∙ sym (is_empty-length c.split_digits.result.0.now) ∙ sym c.is_empty.ensures ∙ c.if-not-is_empty.true in
    c.is_empty-then-not-is_empty.ensures ∙ is_empty-length c.split_digits.result.1.now ∙ ap is_empty c.split_digits.ensures.behind
    ∙ sym (ap (λ e. not e && is_empty (behind_digits bytes)) some) ∙ is_digits-parts bytes
