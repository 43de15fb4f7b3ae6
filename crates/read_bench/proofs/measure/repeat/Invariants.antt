use Rattle.std.proofs.Common.{◌≢◌, []}
use Rattle.read_bench.proofs.measure.repeat.Given as goal

-- the time of the first pass stays
abbrev pub invariant-loop : goal.invariant-loop
invariant-loop g l = l.times.items ≢ []
