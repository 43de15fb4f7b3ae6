use Rattle.std.proofs.Common.{◌≡◌, ◌+◌, ◌-◌}
use Rattle.read_bench.proofs.cuts.count_in.Given as goal

abbrev pub invariant-loop-end : goal.invariant-loop-end
invariant-loop-end l = l.count ≡ 0

abbrev pub decreases-loop-end : goal.decreases-loop-end
decreases-loop-end l = l.len + 1 - l.end
