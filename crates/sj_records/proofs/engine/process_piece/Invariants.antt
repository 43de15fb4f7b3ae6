use Rattle.std.proofs.Common.{◌≡◌, ◌++◌, length}
use Rattle.sj_records.specs.inside.Progress.{task_job}
use Rattle.sj_records.proofs.Feeding.{Feeding}
use Rattle.sj_base.specs.Calls.{unsuccessful}
use Rattle.sj_parse.specs.Answers.{buffer_limit}
use Rattle.sj_records.proofs.engine.process_piece.Given as goal

abbrev pub invariant-loop-behind : goal.invariant-loop-behind
invariant-loop-behind g l = record {
  feeding : Feeding (task_job l.task) (g.W.Sink.contents l.initial.writer) (g.W.Sink.contents l.writer) l.initial.buffers l.buffers (l.initial.pending.line.items ++ l.initial.rest) l.pending.line.items l.rest;
  limit : buffer_limit l.buffers ≡ buffer_limit l.initial.buffers;
  written : unsuccessful (g.W.Sink.calls l.writer) ≡ unsuccessful (g.W.Sink.calls l.initial.writer);
}

abbrev pub decreases-loop-behind : goal.decreases-loop-behind
decreases-loop-behind g l = length l.rest
