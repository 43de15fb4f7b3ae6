use Rattle.std.proofs.Common.{◌≡◌, ◌∷◌, sym, ap, ◌∙◌}
use Rattle.sj_base.specs.Path.{key, place}
use Rattle.sj_scripts.specs.Script.{part_view, path_view}
use Rattle.sj_documents.proofs.Parts.{member_edited, member_missing, object_again, item_edited, item_missing, array_again}
use Rattle.sj_documents.proofs.edit.+edit_at.Goals as goal

pub returns-in-Some-get_mut : goal.returns-in-Some-get_mut
returns-in-Some-get_mut g t c =
    let rest = path_view c.in-Some.rest.now in
    let path : path_view c.args.path.now ≡ key c.deref.result.now ∷ rest = ap path_view c.in-Some.ensures.cases.0 ∙ ap (λ p. part_view p ∷ rest) c.in-Key.is ∙ ap (λ k. key k ∷ rest) (sym c.deref.ensures) in
    rw path
    (member_edited g.K.ObjectKey.text g.D.Literal.literal c.args.document.now c.in-Some-as_object_mut.members.now c.deref.result.now (sym c.in-Some-as_object_mut.ensures.value) c.in-Some-get_mut.member.now c.edit_at.new.document rest (g.E.Edit.rewrite c.args.edit) c.edit_at.result
    c.in-Some-get_mut.ensures.value c.edit_at.ensures)

pub returns-in-None : goal.returns-in-None
returns-in-None g t c =
    let rest = path_view c.in-Some.rest.now in
    let path : path_view c.args.path.now ≡ key c.deref.result.now ∷ rest = ap path_view c.in-Some.ensures.cases.0 ∙ ap (λ p. part_view p ∷ rest) c.in-Key.is ∙ ap (λ k. key k ∷ rest) (sym c.deref.ensures) in
    let is = sym c.in-Some-as_object_mut.ensures.value in
    rw path (
      member_missing g.K.ObjectKey.text g.D.Literal.literal c.args.document.now c.in-Some-as_object_mut.members.now c.deref.result.now is rest (g.E.Edit.rewrite c.args.edit) c.in-None.ensures.value,
      object_again g.K.ObjectKey.text g.D.Literal.literal c.args.document.now c.in-Some-as_object_mut.members.now c.deref.result.now is,
    )

pub returns-in-Some-get_mut-2 : goal.returns-in-Some-get_mut-2
returns-in-Some-get_mut-2 g t c =
    let rest = path_view c.in-Some.rest.now in
    let path : path_view c.args.path.now ≡ place c.in-Item.place ∷ rest = ap path_view c.in-Some.ensures.cases.0 ∙ ap (λ p. part_view p ∷ rest) c.in-Item.is in
    let there = c.in-Some-get_mut-2.ensures.item in
    rw path
    (item_edited g.K.ObjectKey.text g.D.Literal.literal c.args.document.now c.in-Some-as_array_mut.items.now c.in-Item.place (sym c.in-Some-as_array_mut.ensures.value) c.in-Some-get_mut-2.item.now c.edit_at-in-Some-get_mut-2.new.document rest (g.E.Edit.rewrite c.args.edit) c.edit_at-in-Some-get_mut-2.result
    there.3.0 there.1 c.edit_at-in-Some-get_mut-2.ensures)

pub returns-in-None-get_mut : goal.returns-in-None-get_mut
returns-in-None-get_mut g t c =
    let rest = path_view c.in-Some.rest.now in
    let path : path_view c.args.path.now ≡ place c.in-Item.place ∷ rest = ap path_view c.in-Some.ensures.cases.0 ∙ ap (λ p. part_view p ∷ rest) c.in-Item.is in
    let is = sym c.in-Some-as_array_mut.ensures.value in
    rw path (
      item_missing g.K.ObjectKey.text g.D.Literal.literal c.args.document.now c.in-Some-as_array_mut.items.now c.in-Item.place is rest (g.E.Edit.rewrite c.args.edit) c.in-None-get_mut.ensures.item.3,
      array_again g.K.ObjectKey.text g.D.Literal.literal c.args.document.now c.in-Some-as_array_mut.items.now c.in-Item.place is,
    )
