use Rattle.std.proofs.Common.{◌↔◌, false, Some, None, subst}
use Rattle.std.specs.Prelude.{IsTrue, IsSomeAnd}
use Rattle.sj_owned.proofs.Layers.{member_found}
use Rattle.sj_owned.proofs.same_as.equals_member.Goals as goal

pub returns-in-Some : goal.returns-in-Some
returns-in-Some g c =
    let found = member_found g.K.ObjectKey.text g.D.Literal.literal c.args.members.now c.args.key.now (Some c.in-Some.found) c.in-Some.ensures in
    subst (λ o. IsTrue c.equals.result ↔ IsSomeAnd o (g.U.Comparand.equals c.args.value.now)) found c.equals.ensures

pub returns-in-None : goal.returns-in-None
returns-in-None g c =
    let none = member_found g.K.ObjectKey.text g.D.Literal.literal c.args.members.now c.args.key.now None c.in-None.ensures in
    subst (λ o. IsTrue false ↔ IsSomeAnd o (g.U.Comparand.equals c.args.value.now)) none ((λ t. cc), (λ e. absurd e))
