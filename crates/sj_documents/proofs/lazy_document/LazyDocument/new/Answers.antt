use Rattle.std.proofs.Common.{rules}
use Rattle.sj_documents.proofs.lazy_document.LazyDocument.new.Goals as goal

pub returns : goal.returns
returns c = search rules
