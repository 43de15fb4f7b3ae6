use Rattle.std.proofs.Common.{rules}
use Rattle.sj_base.proofs.layout.Container.next.Goals as goal

pub returns-in_err-printed-clause-printed : goal.returns-in_err-printed-clause-printed
returns-in_err-printed-clause-printed c = search rules

pub returns-clause-printed : goal.returns-clause-printed
returns-clause-printed c = search rules
