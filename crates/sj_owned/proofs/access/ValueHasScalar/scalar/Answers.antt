use Rattle.std.proofs.Common.{rules}
use Rattle.sj_owned.specs.declared.value.Value.{the_lemmas}
use Rattle.sj_owned.proofs.access.ValueHasScalar.scalar.Goals as goal

pub returns-in-Static-clause-tree : goal.returns-in-Static-clause-tree
returns-in-Static-clause-tree g c = search (rules, the_lemmas)
