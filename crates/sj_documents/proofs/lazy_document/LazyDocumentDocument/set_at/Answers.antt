use Rattle.sj_documents.specs.Inverse.{setting_back}
use Rattle.sj_scripts.specs.Values.{owned_tree}
use Rattle.sj_documents.proofs.KeptChanges.{setting_kept}
use Rattle.sj_scripts.proofs.KeptTrees.{kept-found}
use Rattle.sj_documents.proofs.LazyWrites.{settles_value, settles_value_kept}
use Rattle.sj_documents.proofs.lazy_document.LazyDocumentDocument.set_at.Goals as goal

pub invariant_of-self-2 : goal.invariant_of-self-2
invariant_of-self-2 c = record { repeats_no_key = settles_value_kept c.args.undo c.args.out.now.items c.set_at.new.out.items _ _ (λ d. setting_back) c.args.self.now.value c.in_ok-document.document.now c.set_at.new.self c.set_at.result c.args.self.now.repeats_no_key c.in_ok-document.ensures.value c.set_at.ensures (setting_kept _ (owned_tree c.args.value.now.value) (kept-found _ c.args.value.now.repeats_no_key)) }

pub returns : goal.returns
returns c = settles_value c.args.undo c.args.out.now.items c.set_at.new.out.items _ _ (λ d. setting_back) c.args.self.now.value c.in_ok-document.document.now c.set_at.new.self c.set_at.result c.args.self.now.repeats_no_key c.in_ok-document.ensures.value c.set_at.ensures
