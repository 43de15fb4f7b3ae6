use Rattle.std.proofs.Common.{ap, sym, ◌∙◌}
use Rattle.sj_owned.specs.Views.{items_inside}
use Rattle.sj_owned.proofs.Layers.{items_inside-Array}
use Rattle.sj_owned.proofs.value.Value.into_array.Goals as goal

pub returns-in-Array : goal.returns-in-Array
returns-in-Array g c = sym (ap items_inside c.in-Array.is ∙ items_inside-Array g.K.ObjectKey.text g.D.Literal.literal c.in-Array.list)
