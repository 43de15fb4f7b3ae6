use Rattle.std.proofs.Common.{Some, sym, ap, ◌∙◌, rules}
use Rattle.sj_object.specs.inside.Places.{set_place}
use Rattle.sj_object.proofs.Places.{place_within, value_at-values, value_at_no_place, put_key-set_place}
use Rattle.sj_object.proofs.object.Object.insert_by.Goals as goal

pub push_by-requires-clause-new_key : goal.push_by-requires-clause-new_key
push_by-requires-clause-new_key g c =
    value_at_no_place g.K.ObjectKey.text (g.K.ObjectKey.text c.args.key) c.args.self.now (rw c.as_text.ensures at (sym c.in_default.ensures))

pub returns-in_err-push_by-clause-succeeds : goal.returns-in_err-push_by-clause-succeeds
returns-in_err-push_by-clause-succeeds g c =
    let absent = value_at_no_place g.K.ObjectKey.text (g.K.ObjectKey.text c.args.key) c.args.self.now (rw c.as_text.ensures at (sym c.in_default.ensures)) in
    rw absent (search rules)

pub returns-in_default-clause-replaced : goal.returns-in_default-clause-replaced
returns-in_default-clause-replaced g c =
    sym (value_at_no_place g.K.ObjectKey.text (g.K.ObjectKey.text c.args.key) c.args.self.now (rw c.as_text.ensures at (sym c.in_default.ensures)))

pub value_mut-requires : goal.value_mut-requires
value_mut-requires g c = place_within g.K.ObjectKey.text (g.K.ObjectKey.text c.args.key) c.args.self.now c.in-Some.at (rw c.as_text.ensures at (sym c.in-Some.ensures))

pub returns-clause-ok : goal.returns-clause-ok
returns-clause-ok g c =
    let found = rw c.as_text.ensures at (sym c.in-Some.ensures) in
    ap (set_place c.args.self.now c.in-Some.at) c.replace.ensures.after ∙ sym (put_key-set_place g.K.ObjectKey.text c.args.key c.args.value c.args.self.now c.in-Some.at found)

pub returns-clause-replaced : goal.returns-clause-replaced
returns-clause-replaced g c =
    let text = g.K.ObjectKey.text in
    let found = rw c.as_text.ensures at (sym c.in-Some.ensures) in
    ap (λ v. Some v) c.replace.ensures.value ∙ sym (value_at-values text (text c.args.key) c.args.self.now c.in-Some.at found ∙ c.value_mut.ensures.value)
