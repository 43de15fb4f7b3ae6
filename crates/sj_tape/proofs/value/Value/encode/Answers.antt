use Rattle.sj_tape.proofs.value.Value.encode.Goals as goal

pub returns : goal.returns
returns c = c.append.ensures
