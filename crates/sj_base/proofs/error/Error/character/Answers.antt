use Rattle.std.proofs.Common.{refl}
use Rattle.sj_base.proofs.error.Error.character.Goals as goal

pub returns : goal.returns
returns c = refl
