use Rattle.std.proofs.Common.{refl}
use Rattle.sj_parse.proofs.buffers.Buffers.max_depth.Goals as goal

pub returns : goal.returns
returns c = refl
