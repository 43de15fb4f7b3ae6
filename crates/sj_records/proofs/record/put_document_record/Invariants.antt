use Rattle.std.proofs.Common.{◌≡◌, ℕ, List, true, ◌++◌}
use Rattle.std.specs.Prelude.{codes}
use Rattle.std.specs.Option.{option_copied}
use Rattle.sj_tape.specs.Views.{tape_nodes, nodes_tree}
use Rattle.sj_documents.specs.Step.{begun}
use Rattle.sj_records.specs.Texts.{HasRead}
use Rattle.sj_records.specs.inside.Progress.{task_job}
use Rattle.sj_records.specs.inside.Reloads.{Runs}
use Rattle.sj_records.proofs.RecordText.{left_len}
use Rattle.sj_parse.specs.Answers.{buffer_limit}
use Rattle.sj_records.proofs.record.put_document_record.Given as goal

-- of the whole script on the tree that was read, and the texts that its reloads have read
abbrev pub invariant-loop-left : goal.invariant-loop-left
invariant-loop-left l =
    let job = task_job l.task in
    (texts : List (List ℕ)) × Runs l.task.undo job (begun job (nodes_tree (tape_nodes l.fn.tape))) job.script true (option_copied l.left) l.room.history.items l.room.printed.items (l.fn.out.items ++ codes "{\"replies\":[") l.out.items texts
    × HasRead l.fn.buffers l.buffers texts
    × (buffer_limit l.buffers ≡ buffer_limit l.fn.buffers)

abbrev pub decreases-loop-left : goal.decreases-loop-left
decreases-loop-left l = left_len (option_copied l.left)
