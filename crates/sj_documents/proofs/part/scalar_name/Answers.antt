use Rattle.std.proofs.Common.{rules}
use Rattle.sj_documents.proofs.part.scalar_name.Goals as goal

pub returns-in-Static-I64 : goal.returns-in-Static-I64
returns-in-Static-I64 c = search rules
