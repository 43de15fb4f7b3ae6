use Rattle.std.proofs.Common.{rules}
use Rattle.sj_lazy.proofs.access.Value.get_array.Goals as goal

pub returns-in_ok-get_array-in-Tape : goal.returns-in_ok-get_array-in-Tape
returns-in_ok-get_array-in-Tape c = search rules
