use Rattle.std.proofs.Common.{rules}
use Rattle.sj_tape.proofs.object.KeysIterator.next.Goals as goal

pub returns-in_err-key-clause-steps : goal.returns-in_err-key-clause-steps
returns-in_err-key-clause-steps c = search rules

pub returns-clause-steps : goal.returns-clause-steps
returns-clause-steps c = search rules
