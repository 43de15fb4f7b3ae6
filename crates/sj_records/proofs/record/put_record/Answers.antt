use Rattle.std.proofs.Common.{◌≡◌, ℕ, [], ◌∷◌, Some, inl, inr, refl, sym, subst, ap}
use Rattle.std.proofs.lemmas.Result.{on_ok_weaker}
use Rattle.sj_base.specs.Spelling.{Document}
use Rattle.sj_base.specs.Text.{text}
use Rattle.sj_base.specs.Tree.{Tree}
use Rattle.sj_base.proofs.Trees.{only_trees}
use Rattle.sj_parse.specs.Fault.{fault}
use Rattle.sj_tape.specs.Nodes.{entries}
use Rattle.sj_tape.specs.Views.{tape_nodes, nodes_tree}
use Rattle.sj_tape.proofs.Listings.{tree_from}
use Rattle.sj_records.specs.Record.{tree_record, fault_record}
use Rattle.sj_records.specs.inside.Progress.{task_job}
use Rattle.sj_records.specs.inside.Reloads.{IsReadable}
use Rattle.sj_records.specs.Texts.{rereads}
use Rattle.sj_records.proofs.Texts.{if_ok, HasRead-then, HasReadLines-one}
use Rattle.sj_records.proofs.record.put_record.Goals as goal

pub put_tape_record-requires-clause-readable : goal.put_tape_record-requires-clause-readable
put_tape_record-requires-clause-readable c =
    let found = c.in-Ok.ensures.found in
    let nodes = tape_nodes c.read_tape.new.tape in
    let document = subst (λ (limit : ℕ). Document c.args.line.now limit found.0) c.requires.limit found.1 in
    let is : nodes_tree nodes ≡ found.0 = tree_from (entries nodes) found.0 found.2 in
    subst (λ (t : Tree). IsReadable c.args.task.depth t) (sym is) (only_trees c.args.line.now found.0 document.spells, document.shallow)

pub returns-in-Ok-clause-holds : goal.returns-in-Ok-clause-holds
returns-in-Ok-clause-holds c =
    let job = task_job c.args.task in
    let found = c.in-Ok.ensures.found in
    let nodes = tape_nodes c.read_tape.new.tape in
    let document = subst (λ (limit : ℕ). Document c.args.line.now limit found.0) c.requires.limit found.1 in
    let is : nodes_tree nodes ≡ found.0 = tree_from (entries nodes) found.0 found.2 in
    on_ok_weaker c.put_tape_record.result (λ put. (text (tree_record job (nodes_tree nodes)), put, inl (found.0, document, ap (λ t. text (tree_record job t)) is))) c.put_tape_record.ensures.holds

pub returns-in-Err-Refused-clause-holds : goal.returns-in-Err-Refused-clause-holds
returns-in-Err-Refused-clause-holds c =
    let why = c.in-Err-Refused.fault in
    let first = subst (λ (limit : ℕ). fault c.args.line.now limit ≡ Some why) c.requires.limit (rw c.in-Err-Refused.field-0-is at c.in-Err-Refused.ensures.refused) in
    on_ok_weaker c.put_fault_record.result (λ put. (text (fault_record why), put, inr (why, first, refl))) (rw c.in-Err-Refused.fault-is at c.put_fault_record.ensures)

pub returns-in-Ok-clause-texts : goal.returns-in-Ok-clause-texts
returns-in-Ok-clause-texts c =
    let job = task_job c.args.task in
    let line = c.args.line.now in
    let found = c.in-Ok.ensures.found in
    let nodes = tape_nodes c.read_tape.new.tape in
    let texts = rereads job (nodes_tree nodes) in
    let document = subst (λ (limit : ℕ). Document line limit found.0) c.requires.limit found.1 in
    let is : nodes_tree nodes ≡ found.0 = tree_from (entries nodes) found.0 found.2 in
    on_ok_weaker c.put_tape_record.result (λ read. HasReadLines-one job c.args.buffers.now c.put_tape_record.new.buffers line (line ∷ texts) (inl (found.0, document, ap (λ t. line ∷ rereads job t) is))
    (HasRead-then c.args.buffers.now c.read_tape.new.buffers c.put_tape_record.new.buffers (line ∷ []) texts c.in-Ok.ensures.texts read)) c.put_tape_record.ensures.texts

pub returns-in-Err-Refused-clause-texts : goal.returns-in-Err-Refused-clause-texts
returns-in-Err-Refused-clause-texts c =
    let line = c.args.line.now in
    let why = c.in-Err-Refused.fault in
    let first = subst (λ (limit : ℕ). fault line limit ≡ Some why) c.requires.limit (rw c.in-Err-Refused.field-0-is at c.in-Err-Refused.ensures.refused) in
    let read = rw c.in-Err-Refused.field-0-is at c.in-Err-Refused.ensures.refused_texts in
    if_ok c.put_fault_record.result (HasReadLines-one (task_job c.args.task) c.args.buffers.now c.read_tape.new.buffers line (line ∷ []) (inr (why, first, refl)) read)
