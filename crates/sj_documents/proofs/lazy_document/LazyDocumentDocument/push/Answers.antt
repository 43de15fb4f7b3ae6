use Rattle.sj_documents.specs.Inverse.{drop_item}
use Rattle.sj_scripts.specs.Values.{owned_tree}
use Rattle.sj_documents.proofs.KeptChanges.{pushing_kept}
use Rattle.sj_scripts.proofs.KeptTrees.{kept-found}
use Rattle.sj_documents.proofs.LazyWrites.{settles_value, settles_value_kept}
use Rattle.sj_documents.proofs.lazy_document.LazyDocumentDocument.push.Goals as goal

pub invariant_of-self-2 : goal.invariant_of-self-2
invariant_of-self-2 c = record { repeats_no_key = settles_value_kept c.args.undo c.args.out.now.items c.push.new.out.items _ _ (λ d x. drop_item) c.args.self.now.value c.in_ok-document.document.now c.push.new.self c.push.result c.args.self.now.repeats_no_key c.in_ok-document.ensures.value c.push.ensures (pushing_kept _ (owned_tree c.args.value.now.value) (kept-found _ c.args.value.now.repeats_no_key)) }

pub returns : goal.returns
returns c = settles_value c.args.undo c.args.out.now.items c.push.new.out.items _ _ (λ d x. drop_item) c.args.self.now.value c.in_ok-document.document.now c.push.new.self c.push.result c.args.self.now.repeats_no_key c.in_ok-document.ensures.value c.push.ensures
