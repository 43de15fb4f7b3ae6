-- How far a walk over the blocks of a text has come.
use Rattle.std.specs.Prelude.{◌≡◌, ◌≤◌, ℕ, not, ◌==◌, List, length, take, filter}
use Rattle.simdutf8.specs.Tracks.{HasRead}
use Rattle.std.specs.List.{range_with_len, list_any}
use Rattle.sj_scan.specs.Positions.{before, is_position_at}
use Rattle.sj_scan.specs.Scan.{is_control_at}
use Rattle.sj_scan.specs.inside.Blocks.{Precedes}
use Rattle.sj_scan.specs.declared.block_scan.Walk.{Walk}

pub record HasWalked (bytes : List ℕ) (walk : Walk) (found : List ℕ) : Type 0 where
  pub within : walk.at ≤ length bytes
  pub positions : found ≡ filter (is_position_at bytes) (range_with_len 0 walk.at)
  pub control : not (walk.controls == 0) ≡ list_any (is_control_at bytes) (range_with_len 0 walk.at)
  pub utf8 : HasRead walk.utf8 (take walk.at bytes)
  pub carry : Precedes (before bytes walk.at) walk.carry
