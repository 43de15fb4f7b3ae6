use Rattle.std.proofs.Common.{rules}
use Rattle.sj_base.proofs.buffer.TextBuffer.as_bytes.Goals as goal

pub returns : goal.returns
returns c = search rules
