use Rattle.std.proofs.Common.{sym, ap₂, ◌∙◌}
use Rattle.std.specs.Option.{unwrap_or}
use Rattle.sj_owned.specs.Views.{value_tree}
use Rattle.sj_scripts.specs.Script.{path_view}
use Rattle.sj_documents.proofs.BackEdits.{placed_at}
use Rattle.sj_documents.proofs.document.place_at.Goals as goal

pub returns-in-Some-as_object : goal.returns-in-Some-as_object
returns-in-Some-as_object g c =
    let text = g.K.ObjectKey.text in
    let literal = g.D.Literal.literal in
    c.unwrap_or.ensures ∙ ap₂ unwrap_or c.place.ensures c.len.ensures.len
    ∙ placed_at text literal c.in-Some.part.now c.in-Some-as_object.members.now (value_tree text literal c.args.document.now) (path_view c.args.path.now) c.args.key.now (sym c.in-Some.ensures) (sym c.in-Some-as_object.ensures)
