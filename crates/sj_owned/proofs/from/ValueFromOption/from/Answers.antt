use Rattle.std.proofs.Common.{refl}
use Rattle.sj_owned.proofs.from.ValueFromOption.from.Goals as goal

pub returns-in-None : goal.returns-in-None
returns-in-None g c = rw c.in-None.is refl
