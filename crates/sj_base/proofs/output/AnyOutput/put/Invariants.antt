use Rattle.std.proofs.Common.{◌≡◌, ℕ, List, ◌++◌, length}
use Rattle.std.specs.Io.KnownBytes.{Appends}
use Rattle.sj_base.specs.Calls.{unsuccessful}
use Rattle.sj_base.proofs.output.AnyOutput.put.Given as goal

-- what was taken, and what is left
abbrev pub invariant-loop-rest : goal.invariant-loop-rest
invariant-loop-rest g l =
    (taken : List ℕ) × (l.bytes ≡ taken ++ l.rest) × Appends (g.W.Sink.contents l.initial.self) (g.W.Sink.contents l.self) taken
    × (unsuccessful (g.W.Sink.calls l.self) ≡ unsuccessful (g.W.Sink.calls l.initial.self))

abbrev pub decreases-loop-rest : goal.decreases-loop-rest
decreases-loop-rest g l = length l.rest
