use Rattle.std.proofs.Common.{refl}
use Rattle.sj_parse.proofs.deserializer.Deserializer.skip.Goals as goal

pub returns-clause-next : goal.returns-clause-next
returns-clause-next c = refl
