use Rattle.std.proofs.Common.{rules}
use Rattle.sj_documents.proofs.lazy_document.LazyDocumentDocument.get.Goals as goal

pub returns-in-Tape : goal.returns-in-Tape
returns-in-Tape c = search rules
