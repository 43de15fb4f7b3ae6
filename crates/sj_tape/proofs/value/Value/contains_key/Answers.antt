use Rattle.std.proofs.Common.{rules}
use Rattle.sj_tape.proofs.value.Value.contains_key.Goals as goal

pub returns : goal.returns
returns c = search rules
