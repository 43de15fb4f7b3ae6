use Rattle.sj_documents.proofs.LazyWrites.{takes_value, takes_value_kept}
use Rattle.sj_documents.proofs.lazy_document.LazyDocumentDocument.take_back.Goals as goal

pub invariant_of-self-2 : goal.invariant_of-self-2
invariant_of-self-2 c = record { repeats_no_key = takes_value_kept _ _ c.args.self.now.value c.in_ok-document.document.now c.take_back.new.self c.take_back.result c.args.self.now.repeats_no_key c.in_ok-document.ensures.value c.take_back.ensures c.in_ok-walk.ensures }

pub returns : goal.returns
returns c = takes_value _ _ c.args.self.now.value c.in_ok-document.document.now c.take_back.new.self c.take_back.result c.args.self.now.repeats_no_key c.in_ok-document.ensures.value c.take_back.ensures
