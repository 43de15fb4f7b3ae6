use Rattle.std.proofs.Common.{refl}
use Rattle.sj_parse.proofs.deserializer.Deserializer.restart.Goals as goal

pub returns-clause-start : goal.returns-clause-start
returns-clause-start c = refl
