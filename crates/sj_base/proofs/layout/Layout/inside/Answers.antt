use Rattle.std.proofs.Common.{rules}
use Rattle.sj_base.proofs.layout.Layout.inside.Goals as goal

pub returns-in-Indented : goal.returns-in-Indented
returns-in-Indented c = search rules
