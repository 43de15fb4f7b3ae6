use Rattle.sj_tape.proofs.tape.Tape.reset.Goals as goal

pub returns : goal.returns
returns c = c.empty.ensures
