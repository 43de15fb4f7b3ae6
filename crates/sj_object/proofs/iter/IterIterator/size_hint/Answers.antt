use Rattle.std.proofs.Common.{rules}
use Rattle.sj_object.proofs.iter.IterIterator.size_hint.Goals as goal

pub returns-clause-exact : goal.returns-clause-exact
returns-clause-exact c = search rules
