use Rattle.std.proofs.Common.{[], length}
use Rattle.sj_documents.specs.Step.{State, after}
use Rattle.sj_scripts.specs.Script.{commands_view}
use Rattle.sj_records.specs.History.{StandFor}
use Rattle.sj_records.specs.inside.Progress.{task_job}
use Rattle.sj_records.proofs.RecordText.{Running}
use Rattle.sj_records.proofs.record.run_commands.Given as goal

-- from any state for which the document and the history stood
abbrev pub invariant-loop-command : goal.invariant-loop-command
invariant-loop-command g l =
    (s : State) → StandFor l.task.undo g.T.Document.keeping (g.T.Document.tree l.initial.document) l.initial.history.items s
    → (r : Running (task_job l.task) s (commands_view l.commands) (commands_view l.left) l.is_first l.is_next_first l.initial.out.items l.out.items [])
    × StandFor l.task.undo g.T.Document.keeping (g.T.Document.tree l.document) l.history.items (after (task_job l.task) s r.ran)

abbrev pub decreases-loop-command : goal.decreases-loop-command
decreases-loop-command g l = length l.left
