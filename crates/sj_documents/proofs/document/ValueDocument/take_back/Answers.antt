use Rattle.sj_owned.specs.Views.{value_tree}
use Rattle.sj_documents.specs.Inverses.{change_view}
use Rattle.sj_scripts.specs.Script.{path_view}
use Rattle.sj_documents.proofs.MadeChanges.{takes_back}
use Rattle.sj_documents.proofs.document.ValueDocument.take_back.Goals as goal

pub returns-in-Ok : goal.returns-in-Ok
returns-in-Ok g c =
    takes_back (value_tree g.K.ObjectKey.text g.D.Literal.literal c.args.self.now) (value_tree g.K.ObjectKey.text g.D.Literal.literal c.edit_at.new.document) _ (path_view c.args.inverse.path.items) (change_view c.args.inverse.change)
    (rw c.deref.ensures.value at c.in-Ok.ensures)
