-- What a walk over a whole text says of it.
use Rattle.std.specs.Prelude.{◌≡◌, ℕ, List, reverse, Result, Ok, Err, None}
use Rattle.std.specs.Str.{is_utf8}
use Rattle.sj_scan.specs.declared.end.End.{End}
use Rattle.sj_scan.specs.declared.stage1.ScanFault.{ScanFault}
use Rattle.sj_scan.specs.Positions.{is_odd, real_quotes}
use Rattle.sj_scan.specs.Scan.{has_control, scan_fault, IsFirstFault}

pub record Ends (bytes : List ℕ) (end : End) : Type 0 where
  pub utf8 : end.is_utf8 ≡ is_utf8 bytes
  pub inside : end.inside ≡ is_odd (real_quotes (reverse bytes))
  pub control : end.has_control ≡ has_control bytes

abbrev pub Answers : List ℕ → Result Unit ScanFault → Type 0
Answers bytes (Ok done) = scan_fault bytes ≡ None
Answers bytes (Err fault) = IsFirstFault bytes fault
