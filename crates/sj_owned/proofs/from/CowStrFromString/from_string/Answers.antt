use Rattle.std.proofs.Common.{rules}
use Rattle.sj_owned.proofs.from.CowStrFromString.from_string.Goals as goal

pub returns : goal.returns
returns c = search rules
