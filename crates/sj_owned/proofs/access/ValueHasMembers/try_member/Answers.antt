use Rattle.std.proofs.Common.{rules}
use Rattle.sj_owned.specs.declared.value.Value.{the_lemmas}
use Rattle.sj_owned.proofs.access.ValueHasMembers.try_member.Goals as goal

pub returns-in-Some : goal.returns-in-Some
returns-in-Some g c = search (rules, the_lemmas)
