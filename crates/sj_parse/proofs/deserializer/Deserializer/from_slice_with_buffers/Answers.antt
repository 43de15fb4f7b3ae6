use Rattle.std.proofs.Common.{rules}
use Rattle.sj_parse.proofs.deserializer.Deserializer.from_slice_with_buffers.Goals as goal

pub returns-clause-start : goal.returns-clause-start
returns-clause-start c = search rules
