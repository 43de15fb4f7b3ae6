use Rattle.std.proofs.Common.{◌≡◌, [], refl, sym, subst, ◌∙◌, rules}
use Rattle.sj_owned.specs.SameAs.{EqualsFound}
use Rattle.sj_owned.specs.Views.{value_tree, members_view}
use Rattle.sj_owned.proofs.Comparing.{members_len-named}
use Rattle.sj_owned.proofs.same_as.equal_members.Goals as goal

pub returns-then-len : goal.returns-then-len
returns-then-len g c =
    let many = members_len-named g.K.ObjectKey.text (value_tree g.K.ObjectKey.text g.D.Literal.literal) c.args.members.now in
    ((λ t. cc), (λ h. absurd (c.if-len.true (c.len.ensures.len ∙ sym many ∙ h.0 ∙ sym c.len-2.ensures.len))))

pub returns : goal.returns
returns g c =
    let many = members_len-named g.K.ObjectKey.text (value_tree g.K.ObjectKey.text g.D.Literal.literal) c.args.members.now in
    let equals = g.U.Comparand.equals in
    let ms = members_view g.K.ObjectKey.text g.D.Literal.literal c.args.members.now in
    let none : c.loop-key.key-iterator ≡ [] = search rules in
    let all = c.loop-key.invariant.2.0 (subst (λ es. EqualsFound equals es ms) (sym none) tt) in
    ((λ t. (many ∙ sym c.len.ensures.len ∙ c.if-len.false ∙ c.len-2.ensures.len, all)), (λ h. refl))

pub loop-key-preserved : goal.loop-key-preserved
loop-key-preserved g c = search rules
