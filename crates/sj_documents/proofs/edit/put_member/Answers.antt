use Rattle.std.proofs.Common.{sym, ap, ◌∙◌}
use Rattle.sj_owned.specs.Views.{value_tree}
use Rattle.sj_owned.specs.declared.value.Value.{Object}
use Rattle.sj_scripts.specs.Values.{owned_tree}
use Rattle.sj_documents.proofs.BackEdits.{member_put_at, member_not_put, put_allowed, kept_on_error, done_without}
use Rattle.sj_documents.proofs.Parts.{object_again}
use Rattle.sj_documents.proofs.edit.put_member.Goals as goal

pub returns-then-not-takes_member : goal.returns-then-not-takes_member
returns-then-not-takes_member g c =
    let is = sym c.in-Some.ensures.value in
    let not_taken = member_not_put g.K.ObjectKey.text g.D.Literal.literal c.args.part.now c.in-Some.members.now is c.args.place c.deref.result.now (owned_tree c.args.value) (sym c.takes_member.ensures ∙ c.if-not-takes_member.true) in
    rw (sym c.deref.ensures) (not_taken.0, object_again g.K.ObjectKey.text g.D.Literal.literal c.args.part.now c.in-Some.members.now c.deref.result.now is ∙ not_taken.1)

pub returns-then-is_err : goal.returns-then-is_err
returns-then-is_err g c =
    let text = g.K.ObjectKey.text in
    let literal = g.D.Literal.literal in
    ap (λ es. value_tree text literal (Object es)) (kept_on_error c.insert_at.result _ (sym c.is_err.ensures.value ∙ c.if-is_err.true) c.insert_at.ensures.unchanged)
    ∙ object_again text literal c.args.part.now c.in-Some.members.now c.deref.result.now (sym c.in-Some.ensures.value)

pub returns : goal.returns
returns g c =
    let text = g.K.ObjectKey.text in
    let literal = g.D.Literal.literal in
    let allowed = put_allowed text literal c.in-Some.members.now c.args.place c.deref.result.now (sym c.takes_member.ensures ∙ c.if-not-takes_member.false) in
    let named = ap text c.from_string.ensures ∙ g.met.K.FromString.keeps_text c.args.key ∙ sym c.deref.ensures in
    let now = done_without c.insert_at.result _ (sym c.is_err.ensures.value ∙ c.if-is_err.false) c.insert_at.ensures.ok in
    let put = member_put_at text literal c.args.part.now c.in-Some.members.now (sym c.in-Some.ensures.value) c.args.place c.deref.result.now (owned_tree c.args.value) c.from_string.result c.in_ok-value.value named c.in_ok-value.ensures allowed.0 allowed.1 in
    rw (sym c.deref.ensures) (put.0, ap (λ es. value_tree text literal (Object es)) now ∙ put.1)
