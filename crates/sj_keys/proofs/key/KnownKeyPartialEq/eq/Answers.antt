use Rattle.std.proofs.Common.{rules}
use Rattle.sj_keys.proofs.key.KnownKeyPartialEq.eq.Goals as goal

pub returns : goal.returns
returns c = search rules
