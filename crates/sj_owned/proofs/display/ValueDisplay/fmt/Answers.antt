use Rattle.std.proofs.Common.{rules}
use Rattle.sj_owned.specs.declared.value.Value.{the_lemmas}
use Rattle.sj_owned.proofs.display.ValueDisplay.fmt.Goals as goal

pub returns-in-String : goal.returns-in-String
returns-in-String g c = search (rules, the_lemmas)
