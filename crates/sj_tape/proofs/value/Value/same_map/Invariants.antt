use Rattle.std.proofs.Common.{◌↔◌}
use Rattle.sj_tape.specs.Views.{object_members}
use Rattle.sj_tape.specs.Compare.{FindsAll, entry_trees, map_trees}
use Rattle.sj_tape.proofs.value.Value.same_map.Given as goal

abbrev pub invariant-loop-key : goal.invariant-loop-key
invariant-loop-key l =
    (goal.iterator-loop-key).can_next l.key-iterator × (goal.iterator-loop-key).is_finite l.key-iterator × (FindsAll (object_members l.object) (entry_trees l.key-iterator) ↔ FindsAll (object_members l.object) (map_trees l.map))
