use Rattle.std.proofs.Common.{rules}
use Rattle.read_bench.proofs.Refusals.{is_refused_by_scan-long, is_refused_by_scan-scanned, is_refused_by_scan-fault}
use Rattle.read_bench.proofs.passes.is_refused_by_scan.Goals as goal

pub returns-then-document : goal.returns-then-document
returns-then-document c = is_refused_by_scan-long _ (search rules)

pub returns-in-Ok : goal.returns-in-Ok
returns-in-Ok c = is_refused_by_scan-scanned _ (search rules) c.in-Ok.ensures.scans.0

pub returns-else-eq : goal.returns-else-eq
returns-else-eq c = is_refused_by_scan-fault _ c.in-Err.fault (search rules) c.in-Err.ensures.scans.0 (search rules)
