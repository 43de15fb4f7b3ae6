use Rattle.std.proofs.Common.{length, flat_map}
use Rattle.sj_base.specs.Text.{escaped}
use Rattle.sj_base.proofs.Towards.{Toward}
use Rattle.sj_base.proofs.put.print_runs.Given as goal

-- what is left to print
abbrev pub invariant-loop-byte : goal.invariant-loop-byte
invariant-loop-byte g l = Toward g.O.Output.appends g.O.Output.begins l.initial.out l.out (flat_map escaped l.rest) (flat_map escaped l.text)

abbrev pub decreases-loop-byte : goal.decreases-loop-byte
decreases-loop-byte g l = length l.rest
