use Rattle.sj_tape.proofs.value.Value.write.Goals as goal

pub returns : goal.returns
returns g c = c.print.ensures
