use Rattle.std.proofs.Common.{◌≡◌, ℕ, List, [], ◌∷◌, sym, ap, ap₂, subst, ◌∙◌}
use Rattle.std.proofs.lemmas.Option.{none-some}
use Rattle.sj_base.specs.Tree.{Tree}
use Rattle.sj_parse.specs.Answers.{IsTapeOf}
use Rattle.sj_parse.specs.Fault.{fault}
use Rattle.sj_tape.specs.Views.{tape_nodes, nodes_tree}
use Rattle.sj_documents.specs.Step.{start}
use Rattle.sj_records.specs.History.{StandFor}
use Rattle.sj_records.specs.Texts.{HasRead}
use Rattle.sj_records.specs.inside.Progress.{task_job}
use Rattle.sj_records.proofs.Readable.{printed_spells, printed_faultless, printed_document}
use Rattle.sj_parse.specs.Answers.{buffer_limit}
use Rattle.sj_records.proofs.record.run_on_text.Goals as goal

pub unreachable-requires : goal.unreachable-requires
unreachable-requires c =
    let h = c.requires.readable in
    let none = printed_faultless c.printed_texts.ensures.compact c.printed_texts.ensures.indented h.0 c.args.task.depth c.args.room.now.printed.items h.1 h.2 in
    let refused = rw c.in-Err-Refused.field-0-is at c.in-Err-Refused.ensures.refused in
    none-some c.in-Err-Refused.field-0-0 (sym none ∙ sym (ap₂ (λ (bs : List ℕ) (limit : ℕ). fault bs limit) c.deref_mut.ensures.value c.requires.limit) ∙ refused)

pub returns-clause-runs : goal.returns-clause-runs
returns-clause-runs c = λ s readable printed stands.
    let job = task_job c.args.task in
    let bytes = c.args.room.now.printed.items in
    let nodes = tape_nodes c.read_tape.new.tape in
    let limit = buffer_limit c.args.buffers.now in
    let found = subst (λ (bs : List ℕ). IsTapeOf bs limit nodes) c.deref_mut.ensures.value c.in-Ok.ensures.found in
    let spells = printed_spells c.printing_reads_back.ensures.compact c.printing_reads_back.ensures.indented s.tree bytes readable.0 printed in
    let is = printed_document s.tree limit bytes nodes spells found in
    let begins : s.tree ≡ start (nodes_tree nodes) job.keeping = sym stands.1 ∙ ap (λ (t : Tree). start t job.keeping) (sym is) in
    let runs = c.in_ok-left.ensures s (subst (λ (t : Tree). StandFor c.args.task.undo job.keeping t c.args.room.now.history.items s) begins stands) in
    rw c.swap.ensures.x_after runs

pub returns-clause-texts : goal.returns-clause-texts
returns-clause-texts c = subst (λ (bytes : List ℕ). HasRead c.args.buffers.now c.read_tape.new.buffers (bytes ∷ [])) c.deref_mut.ensures.value c.in-Ok.ensures.texts

pub returns-in-Err-Memory-clause-limit : goal.returns-in-Err-Memory-clause-limit
returns-in-Err-Memory-clause-limit c = c.read_tape.ensures.limit

pub returns-in_err-left-clause-limit : goal.returns-in_err-left-clause-limit
returns-in_err-left-clause-limit c = c.read_tape.ensures.limit

pub returns-clause-limit : goal.returns-clause-limit
returns-clause-limit c = c.read_tape.ensures.limit
