use Rattle.std.proofs.Common.{sym, ap, ◌∙◌}
use Rattle.std.proofs.lemmas.Result.{IfOk-weaker}
use Rattle.sj_tape.specs.Views.{tape_nodes, nodes_tree}
use Rattle.sj_records.specs.Job.{keeping_of}
use Rattle.sj_documents.specs.Step.{start}
use Rattle.sj_records.proofs.RecordText.{stands_begun}
use Rattle.sj_records.proofs.record.run_on_tape.Goals as goal

pub run_commands-requires-clause-keeping : goal.run_commands-requires-clause-keeping
run_commands-requires-clause-keeping c = sym (ap keeping_of c.in-Owned.is)

pub run_commands-requires-in-Borrowed-clause-keeping : goal.run_commands-requires-in-Borrowed-clause-keeping
run_commands-requires-in-Borrowed-clause-keeping c = sym (ap keeping_of c.in-Borrowed.is)

pub run_commands-requires-in-Lazy-clause-keeping : goal.run_commands-requires-in-Lazy-clause-keeping
run_commands-requires-in-Lazy-clause-keeping c = sym (ap keeping_of c.in-Lazy.is)

pub returns-in_ok-document-in-Owned : goal.returns-in_ok-document-in-Owned
returns-in_ok-document-in-Owned c =
    let tree = nodes_tree (tape_nodes c.args.tape.now) in
    let begins = c.in_ok-document-in-Owned.ensures ∙ ap (start tree) (sym (ap keeping_of c.in-Owned.is)) in
    IfOk-weaker c.run_commands.result _ _ (λ left runs s at. runs s (stands_begun _ _ _ _ _ c.args.history.now.items s (sym (ap keeping_of c.in-Owned.is)) begins at)) c.run_commands.ensures

pub returns-in_ok-document-in-Borrowed : goal.returns-in_ok-document-in-Borrowed
returns-in_ok-document-in-Borrowed c =
    let tree = nodes_tree (tape_nodes c.args.tape.now) in
    let begins = c.in_ok-document-in-Borrowed.ensures ∙ ap (start tree) (sym (ap keeping_of c.in-Borrowed.is)) in
    IfOk-weaker c.run_commands-in-Borrowed.result _ _ (λ left runs s at. runs s (stands_begun _ _ _ _ _ c.args.history.now.items s (sym (ap keeping_of c.in-Borrowed.is)) begins at)) c.run_commands-in-Borrowed.ensures

pub returns-in-Lazy : goal.returns-in-Lazy
returns-in-Lazy c =
    let tree = nodes_tree (tape_nodes c.args.tape.now) in
    let begins = c.new-document.ensures.tree ∙ ap nodes_tree c.as_value.ensures.nodes ∙ ap (start tree) (sym (ap keeping_of c.in-Lazy.is)) in
    IfOk-weaker c.run_commands-in-Lazy.result _ _ (λ left runs s at. runs s (stands_begun _ _ _ _ _ c.args.history.now.items s (sym (ap keeping_of c.in-Lazy.is)) begins at)) c.run_commands-in-Lazy.ensures
