use Rattle.std.proofs.Common.{◌≡◌, ◌+◌, ◌<◌, vec_len}
use Rattle.sj_base.specs.Calls.{unsuccessful}
use Rattle.sj_records.specs.Run.{GoesOn}
use Rattle.sj_records.specs.inside.Progress.{task_job}
use Rattle.sj_records.proofs.Running.{Running}
use Rattle.sj_parse.specs.Answers.{buffer_limit}
use Rattle.sj_records.proofs.engine.run_task.Given as goal

abbrev pub invariant-loop : goal.invariant-loop
invariant-loop g l = record {
  running : Running (task_job l.task) (g.R.Source.remaining l.initial.reader) (g.R.Source.remaining l.reader) (g.W.Sink.contents l.initial.writer) (g.W.Sink.contents l.writer) l.initial.buffers l.buffers l.pending.line.items;
  goes_on : GoesOn (g.R.Source.calls l.initial.reader) (g.R.Source.calls l.reader);
  made : (g.R.Source.calls l.reader).made ≡ (g.R.Source.calls l.initial.reader).made + l.counter;
  written : unsuccessful (g.W.Sink.calls l.writer) ≡ unsuccessful (g.W.Sink.calls l.initial.writer);
  limit : buffer_limit l.buffers ≡ l.task.depth;
  kept : buffer_limit l.buffers ≡ buffer_limit l.initial.buffers;
  room : 0 < vec_len l.piece;
}
