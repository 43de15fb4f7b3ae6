use Rattle.std.proofs.Common.{◌≡◌, ◌-◌}
use Rattle.sj_base.specs.Tree.{no_members}
use Rattle.sj_object.specs.Members.{AreMembers}
use Rattle.sj_build.specs.inside.Building.{members_shown, stack, add_pairs, drop_pairs}
use Rattle.sj_build.specs.inside.Kept.{Knows}
use Rattle.sj_build.proofs.build.take_object.Given as goal

abbrev pub invariant-loop-i : goal.invariant-loop-i
invariant-loop-i g l =
    let tree = g.V.BuildValue.tree in
    let built = members_shown g.K.ObjectKey.text tree l.members in
    (add_pairs (l.len - l._i) built (stack tree l.parts) ≡ add_pairs l.len no_members (stack tree l.fn.parts))
    × (drop_pairs (l.len - l._i) (stack tree l.parts) ≡ drop_pairs l.len (stack tree l.fn.parts))
    × AreMembers g.K.ObjectKey.text l.members
    × Knows l.met built
