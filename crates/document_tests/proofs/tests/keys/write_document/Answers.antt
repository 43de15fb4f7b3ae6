use Rattle.std.proofs.Common.{ap, ◌∙◌}
use Rattle.std.specs.Cow.{cow_str_bytes}
use Rattle.sj_owned.specs.Views.{value_tree}
use Rattle.sj_owned.proofs.Writes.{member_set_tree}
use Rattle.document_tests.proofs.tests.keys.write_document.Goals as goal

pub returns : goal.returns
returns g c =
    ap (value_tree g.K.ObjectKey.text g.D.Literal.literal) c.write.ensures
    ∙ member_set_tree g.K.ObjectKey.text g.D.Literal.literal c.args.document.now (cow_str_bytes c.args.key.now) c.args.value c.requires
