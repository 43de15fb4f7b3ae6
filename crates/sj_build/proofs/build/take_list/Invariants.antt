use Rattle.std.proofs.Common.{◌≡◌, ◌-◌, ◌≤◌, map, drop, length}
use Rattle.std.specs.Vec.{vec_capacity}
use Rattle.sj_build.specs.inside.Building.{items_from, stack}
use Rattle.sj_build.proofs.Stacks.{after}
use Rattle.sj_build.proofs.build.take_list.Given as goal

abbrev pub invariant-loop-i : goal.invariant-loop-i
invariant-loop-i g l =
    let tree = g.V.BuildValue.tree in
    (length l.items.items ≡ l._i)
    × (l.len ≤ vec_capacity l.items)
    × (after (map tree l.items.items) (items_from (l.len - l._i) (stack tree l.parts)) ≡ items_from l.len (stack tree l.fn.parts))
    × (drop (l.len - l._i) (stack tree l.parts) ≡ drop l.len (stack tree l.fn.parts))
