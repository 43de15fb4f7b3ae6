use Rattle.std.proofs.Common.{◌≡◌, drop}
use Rattle.sj_scripts.specs.Command.{as_parts}
use Rattle.sj_scripts.specs.inside.Views.{items_view}
use Rattle.sj_scripts.specs.Script.{path_view}
use Rattle.sj_scripts.proofs.ScriptSteps.{read_after}
use Rattle.sj_scripts.proofs.commands.read_path_parts.Given as goal

abbrev pub invariant-loop-item : goal.invariant-loop-item
invariant-loop-item l = read_after (path_view l.path.items) (as_parts (items_view (drop l.item-index l.items))) ≡ as_parts (items_view l.items)
