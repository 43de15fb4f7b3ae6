use Rattle.std.proofs.Common.{ap, sym, ◌∙◌}
use Rattle.sj_owned.specs.Views.{value_kind}
use Rattle.sj_owned.proofs.Layers.{kind-Decimal}
use Rattle.sj_owned.proofs.value.Value.value_type.Goals as goal

pub returns-in-Decimal : goal.returns-in-Decimal
returns-in-Decimal g c = sym (ap value_kind c.in-Decimal.is ∙ kind-Decimal g.K.ObjectKey.text g.D.Literal.literal _)
