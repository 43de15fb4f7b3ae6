use Rattle.std.proofs.Common.{rules}
use Rattle.sj_lazy.proofs.display.ValueDisplay.fmt.Goals as goal

pub returns-in-Some-clause-writes : goal.returns-in-Some-clause-writes
returns-in-Some-clause-writes g c = search rules
