use Rattle.std.proofs.Common.{rules}
use Rattle.sj_owned.specs.declared.value.Value.{the_lemmas}
use Rattle.sj_owned.proofs.convert.Value+CowStr+DecimalCow.clone_static.Goals as goal

pub returns-clause-tree : goal.returns-clause-tree
returns-clause-tree c = search (rules, the_lemmas)

pub returns-clause-leaves : goal.returns-clause-leaves
returns-clause-leaves c = search (rules, the_lemmas)
