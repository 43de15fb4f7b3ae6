use Rattle.std.proofs.Common.{rules}
use Rattle.sj_keys.proofs.key.KnownKeyFromRefStr.from.Goals as goal

pub returns : goal.returns
returns c = search rules
