use Rattle.std.proofs.Common.{rules}
use Rattle.sj_lazy.proofs.object.IterIterator.next.Goals as goal

pub returns-in_ok-key-in-Tape-clause-steps : goal.returns-in_ok-key-in-Tape-clause-steps
returns-in_ok-key-in-Tape-clause-steps c = search rules
