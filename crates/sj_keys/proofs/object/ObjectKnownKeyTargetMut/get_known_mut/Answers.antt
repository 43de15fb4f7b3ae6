use Rattle.std.proofs.Common.{rules}
use Rattle.sj_keys.proofs.object.ObjectKnownKeyTargetMut.get_known_mut.Goals as goal

pub returns : goal.returns
returns g c = search rules
