use Rattle.std.proofs.Common.{rules}
use Rattle.sj_owned.specs.declared.value.Value.{the_lemmas}
use Rattle.sj_owned.proofs.built.ValueBuildValue.from_array.Goals as goal

pub returns-clause-tree : goal.returns-clause-tree
returns-clause-tree g c = search (rules, the_lemmas)
