use Rattle.std.proofs.Common.{sym}
use Rattle.sj_records.proofs.engine.run_within.Goals as goal

pub run_task-requires : goal.run_task-requires
run_task-requires g c = sym c.max_depth.ensures

pub returns-clause-reads : goal.returns-clause-reads
returns-clause-reads g c = c.run_task.ensures.reads

pub returns-clause-bound : goal.returns-clause-bound
returns-clause-bound g c = c.run_task.ensures.bound
