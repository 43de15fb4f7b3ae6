use Rattle.std.proofs.Common.{rules}
use Rattle.sj_documents.proofs.edit.push_last.Goals as goal

pub returns-in-Ok : goal.returns-in-Ok
returns-in-Ok g c = search rules
