use Rattle.std.proofs.Common.{Some, ap, ◌∙◌}
use Rattle.sj_owned.proofs.Layers.{items_inside-Array}
use Rattle.sj_owned.proofs.value.Value.array.Goals as goal

pub returns : goal.returns
returns g c = items_inside-Array g.K.ObjectKey.text g.D.Literal.literal c.new.result ∙ ap Some c.new.ensures.items
