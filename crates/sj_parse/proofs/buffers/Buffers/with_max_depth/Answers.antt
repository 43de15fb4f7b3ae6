use Rattle.std.proofs.Common.{refl}
use Rattle.sj_parse.proofs.buffers.Buffers.with_max_depth.Goals as goal

pub returns-clause-limit : goal.returns-clause-limit
returns-clause-limit c = refl
