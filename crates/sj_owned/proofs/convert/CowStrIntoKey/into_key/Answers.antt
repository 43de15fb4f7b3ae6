use Rattle.std.proofs.Common.{rules}
use Rattle.sj_owned.specs.declared.value.Value.{the_lemmas}
use Rattle.sj_owned.proofs.convert.CowStrIntoKey.into_key.Goals as goal

pub returns-clause-text : goal.returns-clause-text
returns-clause-text c = search (rules, the_lemmas)

pub returns-clause-changed : goal.returns-clause-changed
returns-clause-changed c = search (rules, the_lemmas)
