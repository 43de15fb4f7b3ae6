use Rattle.std.proofs.Common.{◌≡◌, ◌++◌, drop}
use Rattle.sj_scripts.specs.Script.{path_view}
use Rattle.sj_documents.proofs.path.copy_path.Given as goal

abbrev pub invariant-loop-part : goal.invariant-loop-part
invariant-loop-part l = path_view l.copy.items ++ path_view (drop l.part-index l.path) ≡ path_view l.path
