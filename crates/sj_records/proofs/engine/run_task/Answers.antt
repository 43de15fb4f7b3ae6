use Rattle.std.proofs.Common.{◌≡◌, [], take, drop, length, sym, ◌∙◌, rules, arith}
use denote.Enum.Bare.{same_true}
use Rattle.std.specs.contracts.io.ErrorKind.{the_type}
use Rattle.std.specs.IoError.{error_kind}
use Rattle.std.specs.declared.io.ErrorKind.TheVariants.{Interrupted}
use Rattle.std.specs.Io.KnownBytes.{Consumes}
use Rattle.std.proofs.lemmas.List.{take_at}
use Rattle.std.proofs.lemmas.Result.{err_from_is_err_and}
use Rattle.sj_records.specs.inside.Progress.{task_job}
use Rattle.sj_records.proofs.Counts.{GoesOn-some, GoesOn-interrupted, GoesOn-then}
use Rattle.sj_records.proofs.Running.{Running-clean, Running-idle, Running-more, Running-failed, Running-piece_failed, Running-ended, Running-read}
use Rattle.sj_records.proofs.engine.run_task.Goals as goal
use Rattle.sj_records.proofs.engine.run_task.Goals.{in-Ok+in_ok-process_piece-in-Ok, in-Err}

pub returns-in-Ok-eq0-clause-stands : goal.returns-in-Ok-eq0-clause-stands
returns-in-Ok-eq0-clause-stands g c =
    let given = rw c.in-Ok-eq0.is at c.read.ensures.bytes in
    let nothing : Consumes (g.R.Source.remaining c.loop.reader) (g.R.Source.remaining c.read.new.self) [] = rw c.in-Ok-eq0.field-0-test at given.0 in
    Running-ended (task_job c.args.task) _ _ _ _ _ _ _ _ c.loop.pending.line.items c.finish.result c.loop.invariant.running nothing c.finish.ensures.stands

pub returns-in-Ok-eq0-clause-texts : goal.returns-in-Ok-eq0-clause-texts
returns-in-Ok-eq0-clause-texts g c =
    let given = rw c.in-Ok-eq0.is at c.read.ensures.bytes in
    let nothing : Consumes (g.R.Source.remaining c.loop.reader) (g.R.Source.remaining c.read.new.self) [] = rw c.in-Ok-eq0.field-0-test at given.0 in
    Running-read (task_job c.args.task) _ _ _ _ _ _ c.args.buffers.now c.loop.buffers c.finish.new.buffers c.loop.pending.line.items c.finish.result c.loop.invariant.running nothing c.finish.ensures.stands c.finish.ensures.texts

pub process_piece-requires : goal.process_piece-requires
process_piece-requires g c = record {
  clean = Running-clean (task_job c.args.task) _ _ _ _ _ _ c.loop.pending.line.items c.loop.invariant.running;
  limit = c.loop.invariant.limit;
}

pub returns-in_err-process_piece-in-Ok-clause-stands : goal.returns-in_err-process_piece-in-Ok-clause-stands
returns-in_err-process_piece-in-Ok-clause-stands g c =
    let p = err_from_is_err_and c.from_residual-in_err-process_piece-in-Ok.result c.from_residual-in_err-process_piece-in-Ok.ensures.1 in
    let piece = take c.in-Ok.taken c.deref_mut-in-Ok.result.now in
    let whole : c.deref_mut-in-Ok.result.now ≡ c.read.new.buf = c.deref_mut-in-Ok.ensures.value ∙ take_at c.read.new.buf (drop (length c.read.new.buf) c.loop.piece.items) c.loop.piece.len (omega arith) in
    let given : Consumes (g.R.Source.remaining c.loop.reader) (g.R.Source.remaining c.read.new.self) piece = rw whole c.in-Ok.ensures.bytes.0 in
    rw (p.1, p.2)
    (Running-piece_failed (task_job c.args.task) _ _ _ _ _ _ _ _ c.loop.pending.line.items piece c.in_err-process_piece-in-Ok.field-0.0 c.loop.invariant.running given c.in_err-process_piece-in-Ok.ensures.stands)

pub returns-in-Err-2-clause-stands : goal.returns-in-Err-2-clause-stands
returns-in-Err-2-clause-stands g c = Running-failed (task_job c.args.task) _ _ _ _ _ _ _ c.loop.pending.line.items c.loop.invariant.running c.in-Err-2.ensures.bytes

pub loop-preserved : goal.loop-preserved
loop-preserved g c =
    let so_far = c.loop.invariant in
    let reads = g.R.Source.calls in
    elim c.match-read.branch [
      | in-Ok+in_ok-process_piece-in-Ok w ↦
          let fed = w.in_ok-process_piece-in-Ok.ensures in
          let piece = take w.in-Ok.taken w.deref_mut-in-Ok.result.now in
          let whole : w.deref_mut-in-Ok.result.now ≡ c.read.new.buf = w.deref_mut-in-Ok.ensures.value ∙ take_at c.read.new.buf (drop (length c.read.new.buf) c.loop.piece.items) c.loop.piece.len (omega arith) in
          let given : Consumes (g.R.Source.remaining c.loop.reader) (g.R.Source.remaining c.read.new.self) piece = rw whole w.in-Ok.ensures.bytes.0 in
          record {
            running = rw (w.writer-is, w.pending-is, w.buffers-is) (Running-more (task_job c.args.task) _ _ _ _ _ _ _ _ _ c.loop.pending.line.items piece _ so_far.running given fed.stands fed.texts fed.kept);
            goes_on = GoesOn-then (reads c.args.reader.now) (reads c.loop.reader) (reads c.read.new.self) so_far.goes_on (GoesOn-some (reads c.loop.reader) (reads c.read.new.self) c.read.new.buf w.in-Ok.taken (omega arith) w.in-Ok.ensures.ok_counts);
            made = w.in-Ok.ensures.made ∙ omega arith;
            written = rw w.writer-is (fed.writes ∙ so_far.written);
            limit = rw w.buffers-is (fed.limit ∙ so_far.limit);
            kept = rw w.buffers-is (fed.limit ∙ so_far.kept);
            room = rw w.piece-is so_far.room;
          }
      | in-Err w ↦
          let kind : w.kind.result ≡ Interrupted = same_true the_type (search rules) _ _ (sym w.eq.ensures ∙ w.if-eq.true) in
          let interrupted : error_kind w.in-Err.e ≡ Interrupted = sym w.kind.ensures ∙ kind in
          record {
            running = rw (w.writer-is, w.pending-is, w.buffers-is) (Running-idle (task_job c.args.task) _ _ _ _ _ _ _ c.loop.pending.line.items so_far.running w.in-Err.ensures.bytes);
            goes_on = GoesOn-then (reads c.args.reader.now) (reads c.loop.reader) (reads c.read.new.self) so_far.goes_on (GoesOn-interrupted (reads c.loop.reader) (reads c.read.new.self) (w.in-Err.ensures.err_counts.0 interrupted));
            made = w.in-Err.ensures.made ∙ omega arith;
            written = rw w.writer-is so_far.written;
            limit = rw w.buffers-is so_far.limit;
            kept = rw w.buffers-is so_far.kept;
            room = rw w.piece-is so_far.room;
          }
    ]
