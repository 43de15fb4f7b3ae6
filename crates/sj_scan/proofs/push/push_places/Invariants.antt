use Rattle.std.proofs.Common.{◌≡◌, ◌+◌, ◌-◌, ◌%◌, ◌≤◌, ◌++◌, vec_len, vec_capacity}
use Rattle.sj_scan.specs.inside.Masks.{set_places, IsPrefix}
use Rattle.sj_scan.proofs.push.push_places.Given as goal

abbrev pub invariant-loop-out : goal.invariant-loop-out
invariant-loop-out l = record {
  front : IsPrefix (l.fn.out.items ++ set_places 64 l.base l.mask) (l.out.items ++ set_places 64 l.base l.rest);
  by_eight : (vec_len l.out - vec_len l.fn.out) % 8 ≡ 0;
  from : vec_len l.fn.out ≤ vec_len l.out;
  until : vec_len l.out ≤ vec_len l.fn.out + 64;
  capacity : vec_capacity l.out ≡ vec_capacity l.fn.out;
}

abbrev pub decreases-loop-out : goal.decreases-loop-out
decreases-loop-out l = l.end - vec_len l.out
