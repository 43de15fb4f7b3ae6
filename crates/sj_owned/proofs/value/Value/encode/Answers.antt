use Rattle.sj_owned.proofs.value.Value.encode.Goals as goal

pub returns : goal.returns
returns g c = c.append.ensures
