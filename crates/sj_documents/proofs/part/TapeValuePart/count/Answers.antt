use Rattle.std.proofs.Common.{rules}
use Rattle.sj_documents.proofs.part.TapeValuePart.count.Goals as goal

pub returns-in-Some : goal.returns-in-Some
returns-in-Some c = search rules
