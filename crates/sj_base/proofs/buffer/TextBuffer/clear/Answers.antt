use Rattle.std.proofs.Common.{rules}
use Rattle.sj_base.proofs.buffer.TextBuffer.clear.Goals as goal

pub returns-clause-text : goal.returns-clause-text
returns-clause-text c = search rules
