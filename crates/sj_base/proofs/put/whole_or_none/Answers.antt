use Rattle.std.proofs.Common.{rules}
use Rattle.sj_base.proofs.put.whole_or_none.Goals as goal

pub returns-then-is_err-clause-err : goal.returns-then-is_err-clause-err
returns-then-is_err-clause-err c = search rules
