use Rattle.std.proofs.Common.{[], ◌∷◌, ◌++◌}
use Rattle.sj_base.proofs.trace.Trace.then.Given as goal

abbrev pub ghost-following : goal.ghost-following
ghost-following a = a.self.now.list ++ a.number ∷ []
