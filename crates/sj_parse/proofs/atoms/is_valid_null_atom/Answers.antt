use Rattle.sj_parse.proofs.atoms.is_valid_null_atom.Goals as goal

pub returns : goal.returns
returns c = c.is_atom.ensures
