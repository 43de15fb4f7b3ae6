use Rattle.std.proofs.Common.{◌≡◌}
use Rattle.read_bench.proofs.cuts.count_differences.Given as goal

abbrev pub invariant-loop-document : goal.invariant-loop-document
invariant-loop-document l = l.count ≡ 0
