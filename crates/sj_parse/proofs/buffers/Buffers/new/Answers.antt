use Rattle.sj_parse.proofs.buffers.Buffers.new.Goals as goal

pub returns-clause-limit : goal.returns-clause-limit
returns-clause-limit c = c.with_max_depth.ensures.limit
