use Rattle.std.proofs.Common.{ap, ◌∙◌}
use Rattle.sj_owned.proofs.Writes.{member_set_tree}
use Rattle.sj_owned.specs.Views.{value_tree}
use Rattle.document_tests.proofs.tests.owned.write_by_key.Goals as goal

pub returns : goal.returns
returns g c =
    ap (value_tree g.K.ObjectKey.text g.D.Literal.literal) c.write_member.ensures
    ∙ member_set_tree g.K.ObjectKey.text g.D.Literal.literal c.args.document.now c.args.name.now c.args.value c.requires
