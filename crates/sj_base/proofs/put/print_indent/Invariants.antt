use Rattle.std.proofs.Common.{◌*◌, replicate}
use Rattle.sj_base.proofs.Towards.{Toward}
use Rattle.sj_base.proofs.put.print_indent.Given as goal

-- what is left to print
abbrev pub invariant-loop-left : goal.invariant-loop-left
invariant-loop-left g l = Toward g.O.Output.appends g.O.Output.begins l.initial.out l.out (replicate (2 * l.left) 0x20) (replicate (2 * l.level) 0x20)

abbrev pub decreases-loop-left : goal.decreases-loop-left
decreases-loop-left g l = l.left
