use Rattle.std.proofs.Common.{rules}
use Rattle.sj_owned.specs.declared.value.Value.{the_lemmas}
use Rattle.sj_owned.proofs.value.Value.from_text.Goals as goal

pub returns : goal.returns
returns g c = search (rules, the_lemmas)
