use Rattle.std.proofs.Common.{rules}
use Rattle.sj_parse.proofs.descent_fault.ErrorFromDescentFault.from.Goals as goal

pub returns : goal.returns
returns c = search rules
