use Rattle.std.proofs.Common.{rules}
use Rattle.sj_lazy.proofs.same_as.HashMapStringLazyComparand.equals_lazy.Goals as goal

pub returns-in-Some : goal.returns-in-Some
returns-in-Some g c = search rules
