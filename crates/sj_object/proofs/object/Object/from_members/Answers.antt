use Rattle.std.proofs.Common.{refl}
use Rattle.sj_object.proofs.object.Object.from_members.Goals as goal

pub invariant_of-result : goal.invariant_of-result
invariant_of-result g c = c.requires

pub returns : goal.returns
returns g c = refl
