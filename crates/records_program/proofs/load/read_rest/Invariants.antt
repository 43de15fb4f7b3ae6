use Rattle.std.proofs.Common.{◌≡◌, ◌++◌, List, ℕ}
use Rattle.std.specs.Io.KnownBytes.{Consumes}
use Rattle.records_program.proofs.load.read_rest.Given as goal

-- what was appended is what the reader gave
abbrev pub invariant-loop : goal.invariant-loop
invariant-loop g l = (taken : List ℕ) × (l.bytes.items ≡ l.initial.bytes.items ++ taken)
    × Consumes (g.R.Read.remaining l.initial.reader) (g.R.Read.remaining l.reader) taken
