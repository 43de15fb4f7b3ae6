use Rattle.std.proofs.Common.{subst, ◌∙◌}
use Rattle.std.specs.List.{AllZip}
use Rattle.std.proofs.IntoIterSteps.{All-taken}
use Rattle.sj_owned.proofs.Layers.{items_inside-Array}
use Rattle.sj_owned.proofs.value.Value.from_list.Goals as goal

pub returns : goal.returns
returns g c =
    let h = c.in_ok-convert_into.ensures in (
      c.in_ok-convert_into.field-0.items,
      subst (λ xs. AllZip g.S.Into.converts xs c.in_ok-convert_into.field-0.items) (All-taken h.0 h.1 h.3 ∙ h.2.0) h.4,
      items_inside-Array g.K.ObjectKey.text g.D.Literal.literal c.in_ok-convert_into.field-0,
    )
