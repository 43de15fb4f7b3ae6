use Rattle.std.proofs.Common.{◌≡◌}
use Rattle.sj_tape.specs.Views.{object_members as tape_members, keys_left as tape_keys}
use Rattle.sj_lazy.specs.Parts.{object_members, keys_left}
use Rattle.sj_lazy.specs.inside.Comparing.{first_keys}
use Rattle.sj_lazy.proofs.Alike.{behind_first, keys_of}
use Rattle.sj_lazy.proofs.compare.same_front.Given as goal

abbrev pub invariant-loop-count : goal.invariant-loop-count
invariant-loop-count l =
    (first_keys l.count (tape_members l.members) ≡ first_keys l.count (object_members l.others))
    × (keys_of (behind_first l.count (tape_members l.members)) ≡ tape_keys l.keys)
    × (keys_of (behind_first l.count (object_members l.others)) ≡ keys_left l.other_keys)
