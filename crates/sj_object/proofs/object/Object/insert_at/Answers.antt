use Rattle.std.proofs.Common.{insert, sym, subst, ap, ◌∙◌}
use Rattle.sj_object.specs.declared.entry.Entry.{Entry}
use Rattle.sj_object.specs.Pairs.{keys_of, AreDistinct}
use Rattle.sj_object.specs.inside.Stored.{stored}
use Rattle.sj_object.proofs.Distinct.{distinct_insert}
use Rattle.sj_object.proofs.Places.{no_place, has_text_no_place}
use Rattle.sj_object.proofs.object.Object.insert_at.Goals as goal

pub invariant_of-self : goal.invariant_of-self
invariant_of-self g c = (rw c.make_room.ensures.pairs c.self.invariant.0, c.make_room.ensures.found)

pub invariant_of-self-2 : goal.invariant_of-self-2
invariant_of-self-2 g c =
    let text = g.K.ObjectKey.text in
    let items = (stored c.self.inside.pairs).items in
    let at = c.args.place in
    let new : Entry g.row.K.Denot g.row.V.Denot = record { key = c.args.key; value = c.args.value } in
    let absent = no_place text (text c.args.key) items (rw (← c.self.view_is) at c.requires.new_key) in
    let distinct = distinct_insert text items at new c.self.invariant.0 (has_text_no_place text (text c.args.key) items absent) in
    let inserted = c.insert.ensures.pairs ∙ ap (λ l. insert l at new) c.make_room.ensures.pairs in
    (subst (λ l. AreDistinct (keys_of text l)) (sym inserted) distinct, c.insert.ensures.found)

pub returns-clause-ok : goal.returns-clause-ok
returns-clause-ok g c =
    let new : Entry g.row.K.Denot g.row.V.Denot = record { key = c.args.key; value = c.args.value } in
    c.insert.ensures.pairs ∙ ap (λ l. insert l c.args.place new) (c.make_room.ensures.pairs ∙ c.self.view_is)
