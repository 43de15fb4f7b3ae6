use Rattle.std.proofs.Common.{ℕ, subst}
use Rattle.sj_records.specs.Job.{job_of}
use Rattle.sj_records.specs.Run.{Transfers, LeavesOutput}
use Rattle.sj_records.proofs.engine.run.Goals as goal

pub returns-clause-stands : goal.returns-clause-stands
returns-clause-stands g c =
    subst (λ (limit : ℕ). Transfers (g.R.Source.remaining c.args.reader.now) (g.R.Source.remaining c.run_with.new.reader) (g.W.Sink.contents c.args.writer.now) (g.W.Sink.contents c.run_with.new.writer)
    (LeavesOutput c.run_with.result (job_of c.args.script.now limit c.args.form c.args.repeats)))
    c.in_ok-buffers.ensures.limit c.run_with.ensures.stands

pub returns-clause-reads : goal.returns-clause-reads
returns-clause-reads g c = c.run_with.ensures.reads

pub returns-clause-bound : goal.returns-clause-bound
returns-clause-bound g c = c.run_with.ensures.bound
