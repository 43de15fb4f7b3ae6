use Rattle.sj_owned.proofs.access.ValueTypedValue.value_type.Goals as goal

pub returns : goal.returns
returns g c = c.value_type.ensures
