use Rattle.std.proofs.Common.{rules}
use Rattle.sj_base.proofs.error.ErrorFromAllocError.from.Goals as goal

pub returns : goal.returns
returns c = search rules
