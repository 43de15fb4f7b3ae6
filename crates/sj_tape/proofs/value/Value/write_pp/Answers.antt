use Rattle.sj_tape.proofs.value.Value.write_pp.Goals as goal

pub returns : goal.returns
returns g c = c.print.ensures
