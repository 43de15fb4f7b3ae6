use Rattle.std.proofs.Common.{◌≡◌, take}
use Rattle.read_bench.specs.Refused.{scans_refused}
use Rattle.read_bench.proofs.passes.scan_all.Given as goal

abbrev pub invariant-loop-document : goal.invariant-loop-document
invariant-loop-document l = l.refused ≡ scans_refused (take l.document-index l.documents)
