use Rattle.std.proofs.Common.{◌≡◌, ◌-◌, ◌≤◌, length, vec_len, vec_capacity}
use Rattle.sj_scan.specs.inside.Walk.{HasWalked}
use Rattle.sj_scan.proofs.block_scan.read_blocks.Given as goal

abbrev pub invariant-loop-walk : goal.invariant-loop-walk
invariant-loop-walk l = record {
  walked : HasWalked l.bytes l.walk l.out.items;
  left : l.walk.at ≤ length l.bytes - 1;
  few : vec_len l.out ≤ l.walk.at;
  capacity : vec_capacity l.out ≡ vec_capacity l.fn.out;
}

abbrev pub decreases-loop-walk : goal.decreases-loop-walk
decreases-loop-walk l = length l.bytes - l.walk.at
