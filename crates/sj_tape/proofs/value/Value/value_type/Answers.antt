use Rattle.std.proofs.Common.{rules}
use Rattle.sj_tape.proofs.value.Value.value_type.Goals as goal

pub returns-in-Some : goal.returns-in-Some
returns-in-Some c = search rules
