use Rattle.std.proofs.Common.{rules}
use Rattle.sj_parse.proofs.buffers.Buffers.capacity.Goals as goal

pub returns : goal.returns
returns c = search rules
