use Rattle.std.proofs.Common.{rules}
use Rattle.sj_documents.proofs.reads.contains_at.Goals as goal

pub returns : goal.returns
returns g c = search rules
