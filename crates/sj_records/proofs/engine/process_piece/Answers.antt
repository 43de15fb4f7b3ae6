use Rattle.std.proofs.Common.{ℕ, List, ◌++◌, refl, sym, ap, ◌∙◌}
use Rattle.std.proofs.lemmas.Result.{err_from_is_err_and}
use Rattle.sj_records.specs.inside.Progress.{task_job}
use Rattle.sj_records.proofs.Feeding.{Feeding-begin, Feeding-line, Feeding-failed, Feeding-stopped, Feeding-end, Feeding-read, Feeding-kept}
use Rattle.sj_records.proofs.Written.{Wrote-nothing}
use Rattle.sj_records.proofs.engine.process_piece.Goals as goal

pub loop-behind-init : goal.loop-behind-init
loop-behind-init g c = record {
  feeding = Feeding-begin (task_job c.args.task) (g.W.Sink.contents c.args.writer.now) c.args.buffers.now c.args.pending.now.line.items c.args.piece.now c.requires.clean;
  limit = refl;
  written = refl;
}

pub returns-in_err-complete_line-clause-stands : goal.returns-in_err-complete_line-clause-stands
returns-in_err-complete_line-clause-stands g c =
    let p = err_from_is_err_and c.from_residual-in_err-complete_line.result c.from_residual-in_err-complete_line.ensures.1 in
    let parts = rw c.in-Some.is at c.split_line-end.ensures.parts in
    rw (p.1, p.2) (Feeding-failed (task_job c.args.task) _ _ _ _ _ _ _ _ _ _ c.in_err-complete_line.field-0.0 c.loop-behind.invariant.feeding parts c.split_line-end.ensures.free c.in_err-complete_line.ensures.stands)

pub loop-behind-preserved : goal.loop-behind-preserved
loop-behind-preserved g c =
    let done = c.in_ok-complete_line.ensures in
    let parts = rw c.in-Some.is at c.split_line-end.ensures.parts in
    record {
      feeding = Feeding-line (task_job c.args.task) _ _ _ _ _ _ _ _ _ _ _ _ c.loop-behind.invariant.feeding parts c.split_line-end.ensures.free done.stands done.texts done.cleared;
      limit = done.limit ∙ c.loop-behind.invariant.limit;
      written = done.writes ∙ c.loop-behind.invariant.written;
    }

pub returns-in_err-extend_from_slice-clause-stands : goal.returns-in_err-extend_from_slice-clause-stands
returns-in_err-extend_from_slice-clause-stands g c =
    let p = err_from_is_err_and c.from_residual.result c.from_residual.ensures.1 in
    rw (p.1, p.2) (Feeding-stopped (task_job c.args.task) _ _ _ _ _ _ _ _ c.loop-behind.invariant.feeding (Wrote-nothing (task_job c.args.task) _))

pub returns-in_default-clause-stands : goal.returns-in_default-clause-stands
returns-in_default-clause-stands g c =
    let all = rw c.in_default.is at c.split_line-end.ensures.parts in
    Feeding-end (task_job c.args.task) _ _ _ _ _ _ _ c.loop-behind.invariant.feeding (rw all c.split_line-end.ensures.free)

pub returns-in_default-clause-texts : goal.returns-in_default-clause-texts
returns-in_default-clause-texts g c =
    let all = rw c.in_default.is at c.split_line-end.ensures.parts in
    Feeding-read (task_job c.args.task) _ _ _ _ _ _ _ c.loop-behind.invariant.feeding (rw all c.split_line-end.ensures.free)

pub returns-in_default-clause-kept : goal.returns-in_default-clause-kept
returns-in_default-clause-kept g c =
    let all = rw c.in_default.is at c.split_line-end.ensures.parts in
    c.in_ok-extend_from_slice.ensures.items ∙ ap (λ (b : List ℕ). c.loop-behind.pending.line.items ++ b) (sym all)
    ∙ Feeding-kept (task_job c.args.task) _ _ _ _ _ _ _ c.loop-behind.invariant.feeding (rw all c.split_line-end.ensures.free)

pub returns-in_default-clause-writes : goal.returns-in_default-clause-writes
returns-in_default-clause-writes g c = c.loop-behind.invariant.written
