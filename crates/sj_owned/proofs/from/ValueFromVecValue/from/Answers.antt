use Rattle.std.proofs.Common.{rules}
use Rattle.sj_owned.proofs.from.ValueFromVecValue.from.Goals as goal

pub returns : goal.returns
returns c = search rules
