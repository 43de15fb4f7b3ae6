use Rattle.std.proofs.Common.{◌≡◌}
use Rattle.std.specs.Vec.Iter.{into_iter_items}
use Rattle.sj_scripts.specs.Command.{commands_from}
use Rattle.sj_scripts.specs.inside.Views.{items_view}
use Rattle.sj_scripts.specs.Script.{commands_view}
use Rattle.sj_scripts.proofs.ScriptSteps.{read_after}
use Rattle.sj_scripts.proofs.commands.read_command_list.Given as goal

abbrev pub invariant-loop-place : goal.invariant-loop-place
invariant-loop-place l = read_after (commands_view l.commands.items) (commands_from l.place-iterator.count (items_view (into_iter_items l.place-iterator.iter))) ≡ commands_from 0 (items_view l.fn.items.items)
