use Rattle.std.proofs.Common.{rules}
use Rattle.sj_base.proofs.error.Error.is_syntax.Goals as goal

pub returns-in_default : goal.returns-in_default
returns-in_default c = search rules

pub returns-in-InternalError-17 : goal.returns-in-InternalError-17
returns-in-InternalError-17 c = search rules
