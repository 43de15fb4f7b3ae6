use Rattle.std.specs.Str.{all_ascii_digits}
use Rattle.std.proofs.Common.{ap, ◌∙◌}
use Rattle.sj_base.proofs.Literals.{front_digits-all}
use Rattle.sj_base.proofs.number.is_decimal.Goals as goal

pub is_whole-requires : goal.is_whole-requires
is_whole-requires c = ap all_ascii_digits c.split_digits.ensures.digits ∙ front_digits-all c.split_minus-is_negative.result.1.now
