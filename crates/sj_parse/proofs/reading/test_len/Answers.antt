use Rattle.sj_parse.proofs.reading.test_len.Goals as goal

pub returns-then-len-clause-too_large : goal.returns-then-len-clause-too_large
returns-then-len-clause-too_large c = cc
