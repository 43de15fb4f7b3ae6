use Rattle.std.proofs.Common.{rules}
use Rattle.sj_tape.specs.Listed.{tree_of}
use Rattle.sj_tape.proofs.value.Value.into_string.Goals as goal

pub returns-in-String : goal.returns-in-String
unfolding tree_of
returns-in-String c = search rules
