use Rattle.std.proofs.Common.{rules}
use Rattle.sj_scan.proofs.end.End.first_fault.Goals as goal

pub returns-then-self-2-clause-scans : goal.returns-then-self-2-clause-scans
returns-then-self-2-clause-scans c = search rules
