use Rattle.std.proofs.Common.{rules}
use Rattle.read_bench.proofs.Refusals.{is_refused-read, is_refused-fault}
use Rattle.read_bench.proofs.passes.is_refused.Goals as goal

pub returns-in-Ok-clause-refused : goal.returns-in-Ok-clause-refused
returns-in-Ok-clause-refused g c = is_refused-read _ (rw c.requires at c.in-Ok.ensures.answers).0

pub returns-else-eq-clause-refused : goal.returns-else-eq-clause-refused
returns-else-eq-clause-refused g c =
    is_refused-fault _ c.in-Err.error (rw c.requires at c.in-Err.ensures.answers) (search rules)
