-- What a scan leaves where it doesn't lack memory.
use Rattle.std.specs.Prelude.{ℕ, List, []}
use Rattle.std.specs.Option.{option_map_or}
use Rattle.sj_scan.specs.Positions.{positions}
use Rattle.sj_scan.specs.Scan.{scan_fault}

-- the positions of the text, or none after a fault
unfoldable pub positions_left : List ℕ → List ℕ
positions_left text = option_map_or (λ _. []) (scan_fault text) (positions text)
