use Rattle.std.proofs.Common.{rules}
use Rattle.sj_owned.proofs.from.ValueFromI64.from.Goals as goal

pub returns : goal.returns
returns g c = search rules
