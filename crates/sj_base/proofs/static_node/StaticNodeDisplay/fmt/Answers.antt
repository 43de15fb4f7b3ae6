use Rattle.std.proofs.Common.{rules}
use Rattle.sj_base.proofs.static_node.StaticNodeDisplay.fmt.Goals as goal

pub returns-in-Null-clause-writes : goal.returns-in-Null-clause-writes
returns-in-Null-clause-writes c = search rules
