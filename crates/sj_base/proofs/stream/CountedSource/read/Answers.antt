use Rattle.sj_base.proofs.stream.CountedSource.read.Goals as goal

pub returns-in-Ok-clause-bytes : goal.returns-in-Ok-clause-bytes
returns-in-Ok-clause-bytes g c = c.read-result.ensures.bytes

pub returns-in-Err-clause-bytes : goal.returns-in-Err-clause-bytes
returns-in-Err-clause-bytes g c = c.read-result.ensures.bytes
