use Rattle.std.proofs.Common.{refl}
use Rattle.sj_owned.proofs.value.Value.null.Goals as goal

pub returns : goal.returns
returns g c = refl
