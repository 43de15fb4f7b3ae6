use Rattle.std.proofs.Common.{rules}
use Rattle.sj_object.proofs.iter.IterIterator.next.Goals as goal

pub returns-clause-steps : goal.returns-clause-steps
returns-clause-steps c = search rules
