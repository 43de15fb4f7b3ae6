use Rattle.std.proofs.Common.{◌≡◌, ◌≤◌, vec_len, vec_capacity}
use Rattle.std.specs.Prelude.{filter}
use Rattle.std.specs.List.{range_with_len, list_any}
use Rattle.sj_scan.specs.Positions.{before, is_position_at}
use Rattle.sj_scan.specs.Scan.{is_control_at}
use Rattle.sj_scan.specs.inside.State.{Follows}
use Rattle.sj_scan.proofs.plain.find_positions.Given as goal

abbrev pub invariant-loop-place : goal.invariant-loop-place
invariant-loop-place l = record {
  positions : l.out.items ≡ filter (is_position_at l.bytes) (range_with_len 0 l.place);
  control : l.has_control ≡ list_any (is_control_at l.bytes) (range_with_len 0 l.place);
  follows : Follows (before l.bytes l.place) l.state;
  few : vec_len l.out ≤ l.place;
  capacity : vec_capacity l.initial.out ≤ vec_capacity l.out;
}
