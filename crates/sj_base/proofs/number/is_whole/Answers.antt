use Rattle.std.proofs.Common.{rules}
use Rattle.sj_base.proofs.number.is_whole.Goals as goal

pub returns-else-first-ne48 : goal.returns-else-first-ne48
returns-else-first-ne48 c = search rules
