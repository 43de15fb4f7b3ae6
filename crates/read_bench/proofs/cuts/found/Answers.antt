use Rattle.std.proofs.Common.{rules}
use Rattle.read_bench.proofs.Scans.{left-scanned, left-fault}
use Rattle.read_bench.proofs.cuts.found.Goals as goal

pub returns-in-Ok : goal.returns-in-Ok
returns-in-Ok c = λ text out h. left-scanned text out c.in-Ok.field-0 (rw c.in-Ok.is at h)

pub returns-in-Err : goal.returns-in-Err
returns-in-Err c = λ text out h. left-fault text out c.in-Err.fault (search rules) (rw c.in-Err.is at h)
