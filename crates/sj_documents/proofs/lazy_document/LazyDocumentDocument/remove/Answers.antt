use Rattle.sj_documents.specs.Inverse.{place_at, removal_back}
use Rattle.sj_scripts.specs.Script.{path_view}
use Rattle.sj_documents.proofs.KeptChanges.{removal_kept}
use Rattle.sj_documents.proofs.LazyWrites.{settles_value, settles_value_kept}
use Rattle.sj_documents.proofs.lazy_document.LazyDocumentDocument.remove.Goals as goal

pub invariant_of-self-2 : goal.invariant_of-self-2
invariant_of-self-2 c = record { repeats_no_key = settles_value_kept c.args.undo c.args.out.now.items c.remove.new.out.items _ _ (λ d. removal_back (place_at d (path_view c.args.path.now) c.args.key.now) c.args.key.now) c.args.self.now.value c.in_ok-document.document.now c.remove.new.self c.remove.result c.args.self.now.repeats_no_key c.in_ok-document.ensures.value c.remove.ensures (removal_kept c.args.key.now) }

pub returns : goal.returns
returns c = settles_value c.args.undo c.args.out.now.items c.remove.new.out.items _ _ (λ d. removal_back (place_at d (path_view c.args.path.now) c.args.key.now) c.args.key.now) c.args.self.now.value c.in_ok-document.document.now c.remove.new.self c.remove.result c.args.self.now.repeats_no_key c.in_ok-document.ensures.value c.remove.ensures
