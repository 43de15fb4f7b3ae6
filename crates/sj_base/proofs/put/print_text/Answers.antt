use Rattle.std.proofs.Common.{rules}
use Rattle.sj_base.proofs.put.print_text.Goals as goal

pub returns-in-Literal : goal.returns-in-Literal
returns-in-Literal c = search rules
