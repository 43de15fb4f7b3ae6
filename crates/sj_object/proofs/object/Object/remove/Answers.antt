use Rattle.std.proofs.Common.{Some, sym, subst, ap, ◌∙◌}
use Rattle.sj_object.specs.Pairs.{keys_of, AreDistinct}
use Rattle.sj_object.specs.inside.Stored.{stored}
use Rattle.sj_object.proofs.Distinct.{distinct_drop}
use Rattle.sj_object.proofs.Places.{place_within, value_at_place, value_at_no_place, drop_key_place, drop_key_no_place}
use Rattle.sj_object.proofs.object.Object.remove.Goals as goal

pub returns-in_err-at-clause-value : goal.returns-in_err-at-clause-value
returns-in_err-at-clause-value g c = rw c.from_residual.ensures (sym (value_at_no_place g.K.ObjectKey.text c.args.key.now c.args.self.now (sym c.in_err-at.ensures)))

pub returns-in_err-at-clause-rest : goal.returns-in_err-at-clause-rest
returns-in_err-at-clause-rest g c = sym (drop_key_no_place g.K.ObjectKey.text c.args.key.now c.args.self.now (sym c.in_err-at.ensures))

pub remove-key-requires-clause-within : goal.remove-key-requires-clause-within
remove-key-requires-clause-within g c = rw c.self.view_is (place_within g.K.ObjectKey.text c.args.key.now c.args.self.now c.in_ok-at.at (sym c.in_ok-at.ensures))

pub invariant_of-self : goal.invariant_of-self
invariant_of-self g c =
    let text = g.K.ObjectKey.text in
    let found = rw (← c.self.view_is) at (sym c.in_ok-at.ensures) in
    let items = (stored c.self.inside.pairs).items in
    let rest = c.remove-key.ensures.pairs ∙ sym (drop_key_place text c.args.key.now items c.in_ok-at.at found) in
    (subst (λ l. AreDistinct (keys_of text l)) (sym rest) (distinct_drop text items c.args.key.now c.self.invariant.0), c.remove-key.ensures.found)

pub returns-clause-value : goal.returns-clause-value
returns-clause-value g c =
    let found = rw (← c.self.view_is) at (sym c.in_ok-at.ensures) in
    rw (← c.self.view_is) (
    ap (λ e. Some e.value) c.remove-key.ensures.entry
    ∙ sym (value_at_place g.K.ObjectKey.text c.args.key.now c.remove-key.result (stored c.self.inside.pairs).items c.in_ok-at.at found))

pub returns-clause-rest : goal.returns-clause-rest
returns-clause-rest g c =
    let found = rw (← c.self.view_is) at (sym c.in_ok-at.ensures) in
    rw (← c.self.view_is) (c.remove-key.ensures.pairs ∙ sym (drop_key_place g.K.ObjectKey.text c.args.key.now (stored c.self.inside.pairs).items c.in_ok-at.at found))
