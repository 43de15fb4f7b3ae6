use Rattle.std.proofs.Common.{rules}
use Rattle.sj_documents.proofs.edit.is_within_below.Goals as goal

pub returns-then-limit-gt0 : goal.returns-then-limit-gt0
returns-then-limit-gt0 c = search rules
