use Rattle.std.proofs.Common.{ap}
use Rattle.sj_reads.specs.Reads.{mismatch}
use Rattle.sj_owned.proofs.value.Value.mismatch.Goals as goal

pub returns : goal.returns
returns g c = ap (mismatch c.args.expected) c.value_type.ensures
