use Rattle.std.proofs.Common.{◌≡◌, true}
use Rattle.sj_base.specs.Alike.{keys_within}
use Rattle.sj_tape.specs.Views.{object_members}
use Rattle.sj_lazy.specs.Parts.{keys_left}
use Rattle.sj_lazy.specs.inside.Comparing.{all_found}
use Rattle.sj_lazy.proofs.compare.are_found.Given as goal

abbrev pub invariant-loop-key : goal.invariant-loop-key
invariant-loop-key l =
    (goal.iterator-loop-key).can_next l.key-iterator
    × (goal.iterator-loop-key).is_finite l.key-iterator
    × (all_found (keys_left l.key-iterator) (object_members l.members) ≡ all_found (keys_left l.fn.keys) (object_members l.members))
    × (keys_within (object_members l.in_order) (object_members l.members) ≡ true)
