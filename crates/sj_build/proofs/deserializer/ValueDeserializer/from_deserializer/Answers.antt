use Rattle.std.proofs.Common.{rules}
use Rattle.sj_build.proofs.deserializer.ValueDeserializer.from_deserializer.Goals as goal

pub returns : goal.returns
returns g c = search rules
