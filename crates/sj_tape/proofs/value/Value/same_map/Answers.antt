use Rattle.std.proofs.Common.{rules}
use Rattle.sj_tape.proofs.value.Value.same_map.Goals as goal

pub loop-key-preserved : goal.loop-key-preserved
loop-key-preserved c = search rules
