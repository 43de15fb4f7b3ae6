use Rattle.sj_tape.proofs.value.ValueHasScalar.scalar.Goals as goal

pub returns-clause-tree : goal.returns-clause-tree
returns-clause-tree c = c.into_scalar.ensures.tree

pub returns-clause-kind : goal.returns-clause-kind
returns-clause-kind c = c.into_scalar.ensures.kind
