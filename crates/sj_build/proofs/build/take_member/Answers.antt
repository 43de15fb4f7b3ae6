use Rattle.std.proofs.Common.{cond, sym, subst, ap, ◌∙◌}
use Rattle.std.proofs.lemmas.Result.{on_ok_weaker}
use Rattle.sj_build.specs.inside.Building.{members_shown, shown_tree, first_part, stack}
use Rattle.sj_build.specs.inside.Kept.{with_last, Knows}
use Rattle.sj_build.proofs.Members.{not_added}
use Rattle.sj_build.proofs.build.take_member.Goals as goal

pub returns-then-branch-clause-knows : goal.returns-then-branch-clause-knows
returns-then-branch-clause-knows g c =
    let ms = members_shown g.K.ObjectKey.text g.V.BuildValue.tree c.args.members.now in
    let t = shown_tree (first_part (stack g.V.BuildValue.tree c.take_key.new.parts)) in
    subst (Knows c.meet.new.met) (sym (not_added ms c.in-Some.key.now t (sym c.in_ok-meet.ensures.found ∙ c.if-branch.true))) (c.in_ok-meet.ensures.knows t)

pub returns-clause-knows : goal.returns-clause-knows
returns-clause-knows g c =
    let ms = members_shown g.K.ObjectKey.text g.V.BuildValue.tree c.args.members.now in
    let k = c.in-Some.key.now in
    let t = shown_tree (first_part (stack g.V.BuildValue.tree c.take_key.new.parts)) in
    let new = sym (ap (λ b. cond b ms (with_last ms k t)) (sym c.in_ok-meet.ensures.found ∙ c.if-branch.false)) in
    on_ok_weaker c.add_part.result (λ added. subst (Knows c.meet.new.met) (sym (added ∙ new)) (c.in_ok-meet.ensures.knows t)) c.add_part.ensures.added
