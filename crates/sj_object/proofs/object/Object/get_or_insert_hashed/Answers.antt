use Rattle.std.proofs.Common.{◌≡◌, ◌++◌, ◌∷◌, [], length, map, slice_get, inl, inr, refl, sym, subst, ap, ◌∙◌, rules}
use Rattle.sj_object.specs.declared.entry.Entry.{Entry}
use Rattle.sj_object.specs.Pairs.{keys_of, AreDistinct}
use Rattle.sj_object.specs.inside.Places.{set_place}
use Rattle.sj_object.specs.inside.Stored.{stored}
use Rattle.sj_object.proofs.Distinct.{distinct_push}
use Rattle.sj_object.proofs.Places.{some_same, place_within, value_at_no_place, value_at-values, values_last, has_text_no_place, put_key_no_place, put_key-set_place, set_place-last}
use Rattle.sj_object.proofs.object.Object.get_or_insert_hashed.Goals as goal

pub returns-then-is_err : goal.returns-then-is_err
returns-then-is_err g c =
    let text = g.K.ObjectKey.text in
    let absent = value_at_no_place text (text c.args.key) c.args.self.now (rw c.as_text.ensures at (sym c.in_default.ensures)) in
    (ap inr (c.make_room.ensures.pairs ∙ c.self.view_is), record { writes_back = tt; value = tt; succeeds = rw absent (search rules); handed_back = refl })

pub with-requires : goal.with-requires
with-requires g c =
    let text = g.K.ObjectKey.text in
    c.requires.callable (value_at_no_place text (text c.args.key) c.args.self.now (rw c.as_text.ensures at (sym c.in_default.ensures)))

pub invariant_of-self-in_default : goal.invariant_of-self-in_default
invariant_of-self-in_default g c =
    let text = g.K.ObjectKey.text in
    let items = (stored c.self.inside.pairs).items in
    let absent = rw (← c.self.view_is, c.as_text.ensures) at (sym c.in_default.ensures) in
    let new : Entry g.row.K.Denot g.row.V.Denot = record { key = c.args.key; value = c.with.result } in
    let distinct = distinct_push text items new c.self.invariant.0 (has_text_no_place text (text c.args.key) items absent) in
    let pushed = c.push.ensures.pairs ∙ ap (λ l. l ++ new ∷ []) c.make_room.ensures.pairs in
    (subst (λ l. AreDistinct (keys_of text l)) (sym pushed) distinct, c.push.ensures.found)

pub returns-in_default : goal.returns-in_default
returns-in_default g c =
    let text = g.K.ObjectKey.text in
    let entries = c.args.self.now in
    let key = c.args.key in
    let new : Entry g.row.K.Denot g.row.V.Denot = record { key = key; value = c.with.result } in
    let at = c.len-at.result in
    let missing = rw c.as_text.ensures at (sym c.in_default.ensures) in
    let kept = c.make_room.ensures.pairs ∙ c.self.view_is in
    let pushed = c.push.ensures.pairs ∙ ap (λ l. l ++ new ∷ []) kept in
    let last : at ≡ length entries = c.len-at.ensures.len in
    let written = λ (w : g.row.V.Denot). ap (λ l. set_place l at w) pushed ∙ set_place-last w entries new at last ∙ sym (put_key_no_place text key w entries missing) in
    let same = some_same c.with.result c.value_mut.result.now (sym (values_last entries new at last) ∙ ap (λ l. slice_get (map (λ e. e.value) l) at) (sym pushed) ∙ c.value_mut.ensures.value) in (
      λ i. inl (c.value_mut.result.ghost_name, λ w. written w i),
      record { writes_back = tt; value = rw (value_at_no_place text (text key) entries missing, ← same) c.with.ensures; succeeds = λ _. refl; handed_back = tt },
    )

pub value_mut-requires-2 : goal.value_mut-requires-2
value_mut-requires-2 g c =
    let text = g.K.ObjectKey.text in
    place_within text (text c.args.key) c.args.self.now c.in-Some.at (rw c.as_text.ensures at (sym c.in-Some.ensures))

pub returns : goal.returns
returns g c =
    let text = g.K.ObjectKey.text in
    let entries = c.args.self.now in
    let found = rw c.as_text.ensures at (sym c.in-Some.ensures) in
    let value = value_at-values text (text c.args.key) entries c.in-Some.at found ∙ c.value_mut-2.ensures.value in (
      λ i. inl (c.value_mut-2.result.ghost_name, λ w. sym (put_key-set_place text c.args.key w entries c.in-Some.at found) i),
      record { writes_back = tt; value = rw value refl; succeeds = λ _. refl; handed_back = tt },
    )
