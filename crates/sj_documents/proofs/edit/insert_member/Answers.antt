use Rattle.std.proofs.Common.{◌≡◌, true, Some, None, sym, ap, ◌∙◌, rules}
use Rattle.sj_base.specs.Edit.{put_member}
use Rattle.sj_object.specs.Pairs.{set_value}
use Rattle.sj_owned.specs.Views.{value_tree, members_view}
use Rattle.sj_owned.specs.declared.value.Value.{Object}
use Rattle.sj_owned.proofs.Edits.{members_put}
use Rattle.sj_scripts.specs.Values.{owned_tree}
use Rattle.sj_documents.proofs.BackEdits.{members_set, kept_on_error, done_without}
use Rattle.sj_documents.proofs.Edits.{inserted}
use Rattle.sj_documents.proofs.Parts.{object_again}
use Rattle.sj_documents.proofs.edit.insert_member.Goals as goal

pub returns-in-Some-get_mut : goal.returns-in-Some-get_mut
returns-in-Some-get_mut g c =
    let text = g.K.ObjectKey.text in
    let literal = g.D.Literal.literal in
    let es = c.in-Some.members.now in
    let k = c.args.key.now in
    let yes : c.args.fits ≡ true = search rules in
    let found = c.in-Some-get_mut.ensures.value in
    let valued : value_tree text literal c.replace.new.dest ≡ owned_tree c.args.value.now = ap (value_tree text literal) c.replace.ensures.after ∙ c.in_ok-new.ensures ∙ ap (λ p. p.0) c.in_ok-try_clone.ensures in
    let set = members_set text literal es k c.replace.new.dest c.in-Some-get_mut.member.now (sym found) ∙ ap (put_member (members_view text literal es) k) valued in
    rw yes (inserted text literal c.args.part.now es (sym c.in-Some.ensures.value) k (owned_tree c.args.value.now) (set_value text es k c.replace.new.dest) (Some c.replace.result) set (ap (λ v. Some v) c.replace.ensures.value ∙ found))

pub returns-then-is_err : goal.returns-then-is_err
returns-then-is_err g c =
    let text = g.K.ObjectKey.text in
    let literal = g.D.Literal.literal in
    ap (λ es. value_tree text literal (Object es)) (kept_on_error c.push_new.result _ (sym c.is_err.ensures.value ∙ c.if-is_err.true) c.push_new.ensures.unchanged)
    ∙ object_again text literal c.args.part.now c.in-Some.members.now c.args.key.now (sym c.in-Some.ensures.value)

pub returns : goal.returns
returns g c =
    let text = g.K.ObjectKey.text in
    let literal = g.D.Literal.literal in
    let es = c.in-Some.members.now in
    let k = c.args.key.now in
    let name = c.from_string-name.result in
    let yes : c.args.fits ≡ true = search rules in
    let named : text name ≡ k = ap text c.from_string-name.ensures ∙ g.met.K.FromString.keeps_text c.in_ok-from_str.field-0 ∙ c.in_ok-from_str.ensures.ok in
    let valued : value_tree text literal c.in_ok-new.new ≡ owned_tree c.args.value.now = c.in_ok-new.ensures ∙ ap (λ p. p.0) c.in_ok-try_clone.ensures in
    let now = done_without c.push_new.result _ (sym c.is_err.ensures.value ∙ c.if-is_err.false) c.push_new.ensures.ok in
    let put = ap (members_view text literal) now ∙ members_put text literal es name c.in_ok-new.new ∙ ap (λ l. put_member (members_view text literal es) l (value_tree text literal c.in_ok-new.new)) named ∙ ap (put_member (members_view text literal es) k) valued in
    rw yes (inserted text literal c.args.part.now es (sym c.in-Some.ensures.value) k (owned_tree c.args.value.now) c.push_new.new.self None put c.in_default-get_mut.ensures.value)
