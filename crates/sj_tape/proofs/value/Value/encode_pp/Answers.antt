use Rattle.sj_tape.proofs.value.Value.encode_pp.Goals as goal

pub returns : goal.returns
returns c = c.append.ensures
