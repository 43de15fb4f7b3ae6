use Rattle.std.proofs.Common.{rules}
use Rattle.sj_keys.proofs.key.KnownKeyFromCowStr.from.Goals as goal

pub invariant_of-result : goal.invariant_of-result
invariant_of-result c = search rules
