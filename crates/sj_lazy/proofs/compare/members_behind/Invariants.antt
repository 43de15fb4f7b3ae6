use Rattle.std.proofs.Common.{◌≡◌, true, is_some}
use Rattle.sj_base.specs.Alike.{keys_within}
use Rattle.sj_base.specs.Containers.{members_len}
use Rattle.sj_base.specs.Path.{member_at}
use Rattle.sj_base.specs.Tree.{Members}
use Rattle.sj_tape.specs.Views.{object_members}
use Rattle.sj_lazy.proofs.compare.members_behind.Given as goal

abbrev pub invariant-loop-key : goal.invariant-loop-key
invariant-loop-key l =
    (is_some (member_at (object_members l.rest) l.name) ≡ is_some (member_at (object_members l.members) l.name))
    × ((all : Members) → keys_within (object_members l.members) all ≡ true → keys_within (object_members l.rest) all ≡ true)

abbrev pub decreases-loop-key : goal.decreases-loop-key
decreases-loop-key l = members_len (object_members l.rest)
