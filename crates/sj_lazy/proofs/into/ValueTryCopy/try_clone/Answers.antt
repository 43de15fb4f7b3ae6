use Rattle.std.proofs.Common.{rules}
use Rattle.sj_lazy.proofs.into.ValueTryCopy.try_clone.Goals as goal

pub returns-in-Tape : goal.returns-in-Tape
returns-in-Tape c = search rules
