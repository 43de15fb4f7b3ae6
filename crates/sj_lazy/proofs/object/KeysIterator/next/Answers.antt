use Rattle.std.proofs.Common.{rules}
use Rattle.sj_lazy.proofs.object.KeysIterator.next.Goals as goal

pub returns-in_ok-next-in-Tape-clause-steps : goal.returns-in_ok-next-in-Tape-clause-steps
returns-in_ok-next-in-Tape-clause-steps c = search rules
