-- What a scan leaves, by its contract.
use Rattle.std.proofs.Common.{◌≡◌, ◌≢◌, ℕ, List, None, Some, Ok, Err, refl, sym}
use Rattle.sj_scan.specs.Scan.{Scans, scan_fault}
use Rattle.sj_scan.specs.declared.stage1.ScanFault.{ScanFault}
use Rattle.sj_scan.specs.declared.stage1.ScanFault.TheVariants.{Utf8, Unclosed, Control, NoToken, Memory}
use Rattle.read_bench.specs.inside.Cuts.{positions_left}

pub left-scanned : (text out : List ℕ) (done : Unit) → Scans text (Ok done) out → (None ≡ scan_fault text) × (out ≡ positions_left text)
unfolding positions_left
left-scanned text out done h = (sym h.0, rw h.0 h.1)

pub left-fault : (text out : List ℕ) (f : ScanFault) → f ≢ Memory → Scans text (Err f) out → (Some f ≡ scan_fault text) × (out ≡ positions_left text)
unfolding positions_left
left-fault text out Utf8 other h = (sym h.0, rw h.0 h.1)
left-fault text out Unclosed other h = (sym h.0, rw h.0 h.1)
left-fault text out Control other h = (sym h.0, rw h.0 h.1)
left-fault text out NoToken other h = (sym h.0, rw h.0 h.1)
left-fault text out Memory other h = absurd (other refl)
