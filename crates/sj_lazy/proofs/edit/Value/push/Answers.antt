use Rattle.std.proofs.Common.{rules}
use Rattle.sj_lazy.proofs.edit.Value.push.Goals as goal

pub returns-clause-ok : goal.returns-clause-ok
returns-clause-ok c = search rules

pub returns-clause-document : goal.returns-clause-document
returns-clause-document c = search rules
