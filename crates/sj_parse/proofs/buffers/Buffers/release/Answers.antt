use Rattle.std.proofs.Common.{rules}
use Rattle.sj_parse.proofs.buffers.Buffers.release.Goals as goal

pub returns-clause-positions : goal.returns-clause-positions
returns-clause-positions c = search rules
