use Rattle.std.proofs.Common.{ap, sym, ◌∙◌}
use Rattle.std.proofs.lemmas.Result.{err_from_is_err_and}
use Rattle.sj_owned.specs.Views.{value_tree}
use Rattle.sj_owned.specs.declared.value.Value.{Object}
use Rattle.sj_scripts.specs.Values.{owned_tree}
use Rattle.sj_documents.proofs.BackEdits.{member_set, member_not_set, same_set}
use Rattle.sj_documents.proofs.Parts.{object_again}
use Rattle.sj_documents.proofs.edit.set_member.Goals as goal

pub returns-in_default-get_mut : goal.returns-in_default-get_mut
returns-in_default-get_mut g c =
    let is = sym c.in-Some.ensures.value in
    let none = member_not_set g.K.ObjectKey.text g.D.Literal.literal c.args.part.now c.in-Some.members.now is c.deref-name.result.now (owned_tree c.args.value) (sym c.in_default-get_mut.ensures.value) in
    rw (sym c.deref-name.ensures) (none.0, object_again g.K.ObjectKey.text g.D.Literal.literal c.args.part.now c.in-Some.members.now c.deref-name.result.now is ∙ none.1)

pub returns-in_err-member : goal.returns-in_err-member
returns-in_err-member g c =
    let text = g.K.ObjectKey.text in
    let literal = g.D.Literal.literal in
    let kept = same_set text literal c.in-Some.members.now c.deref-name.result.now c.in-Some-get_mut.member.now (sym c.in-Some-get_mut.ensures.value) in
    rw (err_from_is_err_and c.from_residual.result c.from_residual.ensures.1).1 (ap (λ es. value_tree text literal (Object es)) kept ∙ object_again text literal c.args.part.now c.in-Some.members.now c.deref-name.result.now (sym c.in-Some.ensures.value))

pub returns : goal.returns
returns g c =
    rw (sym c.deref-name.ensures)
    (member_set g.K.ObjectKey.text g.D.Literal.literal c.args.part.now c.in-Some.members.now (sym c.in-Some.ensures.value) c.deref-name.result.now (owned_tree c.args.value) c.in_ok-member.field-0 c.in-Some-get_mut.member.now
    c.in_ok-member.ensures (sym c.in-Some-get_mut.ensures.value))
