use Rattle.std.proofs.Common.{rules}
use Rattle.sj_base.proofs.error.Error.is_io.Goals as goal

pub returns : goal.returns
returns c = search rules
