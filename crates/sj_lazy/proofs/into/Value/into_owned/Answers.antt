use Rattle.std.proofs.Common.{rules}
use Rattle.sj_lazy.proofs.into.Value.into_owned.Goals as goal

pub returns-in-Tape-clause-ok : goal.returns-in-Tape-clause-ok
returns-in-Tape-clause-ok c = search rules
