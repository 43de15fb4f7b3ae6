use Rattle.std.proofs.Common.{◌≡◌, drop}
use Rattle.sj_base.specs.Path.{at}
use Rattle.sj_scripts.specs.Script.{path_view}
use Rattle.sj_documents.proofs.reads.find.Given as goal

abbrev pub invariant-loop-step : goal.invariant-loop-step
invariant-loop-step g l =
    let tree = g.P.Part.tree in
    at (tree l.found) (path_view (drop l.step-index l.path)) ≡ at (tree l.fn.document) (path_view l.path)
