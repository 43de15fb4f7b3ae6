use Rattle.std.proofs.Common.{refl}
use Rattle.sj_owned.proofs.from.ValueFromU64.from.Goals as goal

pub returns : goal.returns
returns g c = refl
