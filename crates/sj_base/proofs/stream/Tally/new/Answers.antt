use Rattle.std.proofs.Common.{rules}
use Rattle.sj_base.proofs.stream.Tally.new.Goals as goal

pub returns : goal.returns
returns c = search rules
