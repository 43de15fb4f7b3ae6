use Rattle.sj_parse.proofs.reading.to_tape_with_buffers.Goals as goal

pub returns-clause-scanned : goal.returns-clause-scanned
returns-clause-scanned c = c.in_ok-fill_tape.ensures.scanned
