use Rattle.std.proofs.Common.{rules}
use Rattle.sj_base.proofs.error.ErrorType.name.Goals as goal

pub returns-in-Eof : goal.returns-in-Eof
returns-in-Eof c = search rules
