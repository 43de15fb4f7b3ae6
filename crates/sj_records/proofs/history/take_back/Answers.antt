use Rattle.std.proofs.Common.{◌≡◌, [], sym, ◌∙◌, arith}
use Rattle.std.proofs.lemmas.List.{append-nil, nil_from_length}
use Rattle.sj_records.proofs.Histories.{undo_done, undo_none, undo_refused}
use Rattle.sj_records.proofs.history.take_back.Goals as goal

pub returns-in_default : goal.returns-in_default
returns-in_default g c =
    let none : c.args.history.now.items ≡ [] = nil_from_length c.args.history.now.items (omega (arith, c.args.history.now.ok.0, c.in_default.ensures.cases.0)) in
    let left : c.pop.new.self.items ≡ [] = sym (append-nil c.pop.new.self.items) ∙ sym c.in_default.ensures.items ∙ none in
    undo_none g.T.Document.keeping (g.T.Document.tree c.args.document.now) c.args.history.now.items c.pop.new.self.items c.args.out.now.items c.put_bool.new.out.items none left c.put_bool.result c.put_bool.ensures

pub returns-in_err-is_made : goal.returns-in_err-is_made
returns-in_err-is_made g c =
    undo_refused g.T.Document.keeping (g.T.Document.tree c.args.document.now) (g.T.Document.tree c.take_back.new.self) c.args.history.now.items c.pop.new.self.items c.args.out.now.items c.args.out.now.items c.in-Some.inverse c.in-Some.ensures.items
    c.from_residual.result c.from_residual.ensures.0 c.in_err-is_made.field-0.0 c.in_err-is_made.ensures

pub returns : goal.returns
returns g c =
    undo_done g.T.Document.keeping (g.T.Document.tree c.args.document.now) (g.T.Document.tree c.take_back.new.self) c.args.history.now.items c.pop.new.self.items c.args.out.now.items c.put_bool-2.new.out.items c.in-Some.inverse c.in-Some.ensures.items
    c.put_bool-2.result c.in_ok-is_made.is_made c.in_ok-is_made.ensures c.put_bool-2.ensures
