use Rattle.std.proofs.Common.{refl}
use Rattle.sj_parse.proofs.deserializer.Deserializer.into_tape.Goals as goal

pub returns : goal.returns
returns c = refl
