use Rattle.sj_base.proofs.Keeping.{keeps_once, keeps_parts, keeps_put}
use Rattle.sj_base.proofs.laws.keep_commutes.Goals as goal

pub returns-clause-once : goal.returns-clause-once
returns-clause-once c = keeps_once

pub returns-clause-parts : goal.returns-clause-parts
returns-clause-parts c = keeps_parts

pub returns-clause-put : goal.returns-clause-put
returns-clause-put c = keeps_put
