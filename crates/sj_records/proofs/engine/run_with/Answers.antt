use Rattle.sj_records.proofs.engine.run_with.Goals as goal

pub returns-clause-reads : goal.returns-clause-reads
returns-clause-reads g c = c.run_within.ensures.reads

pub returns-clause-bound : goal.returns-clause-bound
returns-clause-bound g c = c.run_within.ensures.bound
