use Rattle.std.proofs.Common.{◌≡◌}
use Rattle.std.specs.Prelude.{drop}
use Rattle.std.specs.List.{list_any}
use Rattle.sj_scripts.specs.Script.{commands_view}
use Rattle.sj_records.specs.History.{is_undo}
use Rattle.sj_records.proofs.task.undo_of.Given as goal

-- One of the commands is `undo`, if one of those that are left is.
abbrev pub invariant-loop-command : goal.invariant-loop-command
invariant-loop-command l = list_any is_undo (commands_view (drop l.command-index l.commands)) ≡ list_any is_undo (commands_view l.commands)
