use Rattle.std.proofs.Common.{rules}
use Rattle.sj_keys.proofs.key.KnownKeyTryCopy.try_clone.Goals as goal

pub invariant_of-result : goal.invariant_of-result
invariant_of-result c = search rules

pub returns : goal.returns
returns c = search rules
