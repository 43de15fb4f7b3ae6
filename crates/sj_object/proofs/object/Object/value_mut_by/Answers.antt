use Rattle.std.proofs.Common.{inl, refl, sym, ◌∙◌}
use Rattle.sj_object.proofs.Places.{place_within, value_at-values, value_at_no_place, set_value-set_place}
use Rattle.sj_object.proofs.object.Object.value_mut_by.Goals as goal

pub value_mut-requires : goal.value_mut-requires
value_mut-requires g c = place_within g.K.ObjectKey.text c.args.key.now c.args.self.now c.in-Some.at (sym c.in-Some.ensures)

pub returns-in-Some : goal.returns-in-Some
returns-in-Some g c =
    let text = g.K.ObjectKey.text in
    let key = c.args.key.now in
    let entries = c.args.self.now in
    let found = sym c.in-Some.ensures in (
      λ i. inl (c.value_mut.result.ghost_name, λ w. sym (set_value-set_place text key w entries c.in-Some.at found) i),
      sym c.value_mut.ensures.value ∙ sym (value_at-values text key entries c.in-Some.at found),
    )

pub returns-in-None : goal.returns-in-None
returns-in-None g c = (refl, sym (value_at_no_place g.K.ObjectKey.text c.args.key.now c.args.self.now (sym c.in-None.ensures)))
