use Rattle.std.proofs.Common.{rules}
use Rattle.sj_base.proofs.error.Error.is_eof.Goals as goal

pub returns : goal.returns
returns c = search rules
