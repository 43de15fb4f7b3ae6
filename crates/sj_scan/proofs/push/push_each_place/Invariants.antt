use Rattle.std.proofs.Common.{◌≡◌, ◌+◌, ◌^◌, ◌<◌, ◌≤◌, ◌++◌, length, vec_len, vec_capacity, All}
use Rattle.sj_scan.specs.inside.Masks.{set_places}
use Rattle.sj_scan.proofs.push.push_each_place.Given as goal

abbrev pub invariant-loop-rest : goal.invariant-loop-rest
invariant-loop-rest l = record {
  items : l.out.items ++ set_places 64 l.base l.rest ≡ l.fn.out.items ++ set_places 64 l.base l.mask;
  room : vec_len l.out + length (set_places 64 l.base l.rest) ≤ vec_capacity l.out;
  fits : All (λ place. place < 2 ^ 32) (set_places 64 l.base l.rest);
  capacity : vec_capacity l.out ≡ vec_capacity l.fn.out;
}

abbrev pub decreases-loop-rest : goal.decreases-loop-rest
decreases-loop-rest l = l.rest
