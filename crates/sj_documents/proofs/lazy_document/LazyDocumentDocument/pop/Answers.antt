use Rattle.sj_documents.specs.Inverse.{popping_back}
use Rattle.sj_documents.proofs.KeptChanges.{popping_kept}
use Rattle.sj_documents.proofs.LazyWrites.{settles_value, settles_value_kept}
use Rattle.sj_documents.proofs.lazy_document.LazyDocumentDocument.pop.Goals as goal

pub invariant_of-self-2 : goal.invariant_of-self-2
invariant_of-self-2 c = record { repeats_no_key = settles_value_kept c.args.undo c.args.out.now.items c.pop.new.out.items _ _ (λ d. popping_back) c.args.self.now.value c.in_ok-document.document.now c.pop.new.self c.pop.result c.args.self.now.repeats_no_key c.in_ok-document.ensures.value c.pop.ensures popping_kept }

pub returns : goal.returns
returns c = settles_value c.args.undo c.args.out.now.items c.pop.new.out.items _ _ (λ d. popping_back) c.args.self.now.value c.in_ok-document.document.now c.pop.new.self c.pop.result c.args.self.now.repeats_no_key c.in_ok-document.ensures.value c.pop.ensures
