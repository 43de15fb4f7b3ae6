use Rattle.std.proofs.Common.{rules}
use Rattle.sj_base.proofs.layout.Layout.open_object.Goals as goal

pub returns-in_err-put-clause-printed : goal.returns-in_err-put-clause-printed
returns-in_err-put-clause-printed c = search rules

pub returns-clause-printed : goal.returns-clause-printed
returns-clause-printed c = search rules
