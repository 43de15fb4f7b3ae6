use Rattle.std.proofs.Common.{rules}
use Rattle.sj_lazy.proofs.same_as.equals_members.Goals as goal

pub returns-then-not-equals_found : goal.returns-then-not-equals_found
returns-then-not-equals_found g c = search rules
