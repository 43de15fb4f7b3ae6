use Rattle.std.proofs.Common.{rules}
use Rattle.sj_keys.proofs.document.AnyKnownKeyTargetMut.get_known_or_insert.Goals as goal

pub returns-in-None : goal.returns-in-None
returns-in-None c = search rules
