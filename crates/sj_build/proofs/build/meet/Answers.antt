use Rattle.std.proofs.Common.{true, false, cond, get_or, sym, ap, ap₂, ◌∙◌, arith, rules}
use Rattle.std.proofs.lemmas.Map.Text.{is_eq-slice_cmp}
use Rattle.sj_object.specs.Members.{member_pairs}
use Rattle.sj_build.specs.inside.Building.{members_shown}
use Rattle.sj_build.specs.inside.Kept.{has_key, mark_of}
use Rattle.sj_build.proofs.MetKeys.{has_key-add_member, marked_knows, not_met}
use Rattle.sj_build.proofs.Members.{has_member}
use Rattle.sj_build.proofs.build.meet.Goals as goal

pub returns-in_ok-insert-in-Some-clause-found : goal.returns-in_ok-insert-in-Some-clause-found
returns-in_ok-insert-in-Some-clause-found g c = search rules

pub returns-in_ok-insert-in-Some-clause-knows : goal.returns-in_ok-insert-in-Some-clause-knows
returns-in_ok-insert-in-Some-clause-knows g c =
    let ms = members_shown g.K.ObjectKey.text g.V.BuildValue.tree c.args.members.now in
    let key = c.args.key in
    λ t. (
      λ k.
          c.in_ok-insert-in-Some.ensures.updates.0 (record key { now = k })
          ∙ ap₂ (λ b had. cond b true had) (is_eq-slice_cmp key.now k) ((rw c.in-Some.is at c.requires.knows.0) k)
          ∙ sym (has_key-add_member ms key.now t k),
      c.requires.knows.1,
      λ none. absurd cc,
    )

pub returns-then-is_marked-clause-found : goal.returns-then-is_marked-clause-found
returns-then-is_marked-clause-found g c =
    c.contains_key.ensures ∙ has_member g.K.ObjectKey.text g.V.BuildValue.tree (member_pairs c.args.members.now) c.args.key.now

pub returns-else-is_marked-clause-found : goal.returns-else-is_marked-clause-found
returns-else-is_marked-clause-found g c =
    let ms = members_shown g.K.ObjectKey.text g.V.BuildValue.tree c.args.members.now in
    let key = c.args.key.now in
    let marks = c.args.met.now.marks in
    let none = ap (λ i. get_or marks i false) (sym c.mark_of-mark.ensures.mark) ∙ c.if-is_marked.false in
    c.if-is_marked.false ∙ not_met (has_key ms key) (get_or marks (mark_of key) false) (c.requires.knows.2 c.in-None.is key) none

pub returns-then-is_marked-clause-knows : goal.returns-then-is_marked-clause-knows
returns-then-is_marked-clause-knows g c =
    let ms = members_shown g.K.ObjectKey.text g.V.BuildValue.tree c.args.members.now in
    λ t. marked_knows c.args.met.now ms c.args.key.now t c.mark_of-mark.result c.in-None.is c.requires.knows c.mark_of-mark.ensures.mark (omega (arith, c.mark_of-mark.ensures.within, c.requires.knows.1))

pub returns-else-is_marked-clause-knows : goal.returns-else-is_marked-clause-knows
returns-else-is_marked-clause-knows g c =
    let ms = members_shown g.K.ObjectKey.text g.V.BuildValue.tree c.args.members.now in
    λ t. marked_knows c.args.met.now ms c.args.key.now t c.mark_of-mark.result c.in-None.is c.requires.knows c.mark_of-mark.ensures.mark (omega (arith, c.mark_of-mark.ensures.within, c.requires.knows.1))
