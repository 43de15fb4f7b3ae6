use Rattle.std.proofs.Common.{rules}
use Rattle.sj_lazy.proofs.value.Value.from_tape.Goals as goal

pub returns : goal.returns
returns c = search rules
