use Rattle.std.proofs.Common.{rules}
use Rattle.sj_documents.proofs.reads.put_found.Goals as goal

pub returns : goal.returns
returns g c = search rules
