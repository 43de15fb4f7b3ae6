use Rattle.std.proofs.Common.{rules}
use Rattle.sj_base.proofs.layout.Container.print_last_line_start.Goals as goal

pub returns-else-self : goal.returns-else-self
returns-else-self c = search rules
