use Rattle.std.proofs.Common.{option_map, ap, subst, ◌∙◌}
use Rattle.sj_base.specs.Output.{AppendsOrLeaves}
use Rattle.sj_base.specs.Text.{text}
use Rattle.sj_owned.specs.Views.{value_tree}
use Rattle.sj_documents.specs.Step.{reply_of}
use Rattle.sj_documents.proofs.Writing.{copied_tree}
use Rattle.sj_documents.proofs.document.put_taken.Goals as goal

pub returns : goal.returns
returns g c =
    let tree = value_tree g.K.ObjectKey.text g.D.Literal.literal in
    subst (λ o. AppendsOrLeaves c.put_found.result c.args.out.now.items c.put_found.new.out.items (text (reply_of o))) (copied_tree tree c.as_ref.result ∙ ap (option_map tree) c.as_ref.ensures.value) c.put_found.ensures
