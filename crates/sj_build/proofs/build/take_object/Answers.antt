use Rattle.std.proofs.Common.{◌≡◌, ◌+◌, ◌-◌, suc, ap, ◌∙◌, arith}
use Rattle.sj_build.specs.inside.Building.{members_shown, stack, add_pair, add_pairs, drop_pairs}
use Rattle.sj_build.proofs.Stacks.{member_then, pairs_then}
use Rattle.sj_build.proofs.build.take_object.Goals as goal

pub loop-i-preserved : goal.loop-i-preserved
loop-i-preserved g c =
    let tree = g.V.BuildValue.tree in
    let old = members_shown g.K.ObjectKey.text tree c.loop-i.members in
    let ps = stack tree c.loop-i.parts in
    let n = c.args.len - c.loop-i._i in
    let m = c.args.len - (c.loop-i._i + 1) in
    let one : n ≡ suc m = omega (arith, c.loop-i-test.true) in (
      ap (λ ms. add_pairs m ms (stack tree c.take_member.new.parts)) c.in_ok-take_member.ensures.added
          ∙ ap (add_pairs m (add_pair old ps)) c.in_ok-take_member.ensures.rest
          ∙ member_then old n m ps one
          ∙ c.loop-i.invariant.0,
      ap (drop_pairs m) c.in_ok-take_member.ensures.rest ∙ pairs_then n m ps one ∙ c.loop-i.invariant.1,
      c.in_ok-take_member.ensures.members,
      c.in_ok-take_member.ensures.knows,
    )
