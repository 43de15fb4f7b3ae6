use Rattle.std.proofs.Common.{◌≡◌, ℕ, List, [], ◌∷◌, ◌++◌, true, false, refl, sym, ap, subst, ◌∙◌, arith}
use Rattle.std.specs.List.{list_all}
use Rattle.std.specs.Option.{option_copied}
use Rattle.sj_documents.specs.declared.inverse.Undo.{Undo}
use Rattle.sj_records.specs.declared.task.Task.{Task}
use Rattle.sj_tape.specs.Views.{tape_nodes, nodes_tree}
use Rattle.sj_scripts.specs.Command.{Step}
use Rattle.sj_scripts.specs.Script.{commands_view}
use Rattle.sj_documents.specs.Step.{begun, after}
use Rattle.sj_records.specs.inside.Progress.{task_job}
use Rattle.sj_records.specs.inside.Reloads.{Runs}
use Rattle.sj_records.specs.History.{may_run}
use Rattle.sj_records.specs.Texts.{HasRead}
use Rattle.sj_records.proofs.Histories.{begun_stands, allowed_behind, needed_allows}
use Rattle.sj_records.proofs.Readable.{reached_again}
use Rattle.sj_records.proofs.RecordText.{record_begun, Runs-on, left_len, fewer_left}
use Rattle.sj_records.proofs.Texts.{HasRead-nothing, HasRead-then}
use Rattle.sj_records.proofs.record.put_document_record.Goals as goal

pub loop-left-init : goal.loop-left-init
loop-left-init c =
    let job = task_job c.args.task in
    let t = nodes_tree (tape_nodes c.args.tape.now) in
    let runs = c.in_ok-left.ensures (begun job t) (begun_stands _ job t c.args.room.now.history.items c.requires.new_line) in
    let scripted = subst (λ (cs : List Step). Runs c.args.task.undo job (begun job t) cs true (option_copied c.in_ok-left.left) c.run_on_tape.new.history.items c.run_on_tape.new.text.items c.extend_from_slice.new.self.items c.run_on_tape.new.out.items []) c.commands-commands.ensures.commands runs in
    ([], subst (λ (bs : List ℕ). Runs c.args.task.undo job (begun job t) job.script true (option_copied c.in_ok-left.left) c.run_on_tape.new.history.items c.run_on_tape.new.text.items bs c.run_on_tape.new.out.items []) c.in_ok-extend_from_slice.ensures.items scripted, HasRead-nothing c.args.buffers.now, refl)

all_may_run : (task : Task) → list_all (may_run task.undo) (task_job task).script ≡ true
all_may_run task = subst (λ (how : Undo). list_all (may_run how) (task_job task).script ≡ true) (sym task.needed) (needed_allows (task_job task).script)

pub run_on_tape-requires-clause-allowed : goal.run_on_tape-requires-clause-allowed
run_on_tape-requires-clause-allowed c = ap (list_all (may_run c.args.task.undo)) c.commands-commands.ensures.commands ∙ all_may_run c.args.task

pub run_on_text-requires-clause-allowed : goal.run_on_text-requires-clause-allowed
run_on_text-requires-clause-allowed c =
    let r = rw c.in-Some.is at c.loop-left.invariant.1 in
    allowed_behind c.args.task.undo (task_job c.args.task).script r.ran (commands_view c.in-Some.commands.now) r.parts (all_may_run c.args.task)

pub run_on_text-requires-clause-readable : goal.run_on_text-requires-clause-readable
run_on_text-requires-clause-readable c =
    let job = task_job c.args.task in
    let t = nodes_tree (tape_nodes c.args.tape.now) in
    let r = rw c.in-Some.is at c.loop-left.invariant.1 in
    let again = reached_again c.args.task.undo job t _ _ _ _ _ _ r c.commands-commands.ensures.accepted c.requires.readable in
    ((after job (begun job t) r.ran).tree, again.0, r.is_printed)

pub loop-left-smaller : goal.loop-left-smaller
loop-left-smaller c =
    let job = task_job c.args.task in
    let t = nodes_tree (tape_nodes c.args.tape.now) in
    let r = rw c.in-Some.is at c.loop-left.invariant.1 in
    let again = reached_again c.args.task.undo job t _ _ _ _ _ _ r c.commands-commands.ensures.accepted c.requires.readable in
    let s = after job (begun job t) r.ran in
    let runs = c.in_ok-left-2.ensures.runs s again.0 r.is_printed r.stands in
    let fewer = fewer_left c.args.task.undo job s (commands_view c.in-Some.commands.now) false (option_copied c.in_ok-left-2.left) _ _ _ _ _ runs in
    let before = ap (λ o. left_len (option_copied o)) c.in-Some.is in
    omega arith

pub loop-left-preserved : goal.loop-left-preserved
loop-left-preserved c =
    let job = task_job c.args.task in
    let t = nodes_tree (tape_nodes c.args.tape.now) in
    let r = rw c.in-Some.is at c.loop-left.invariant.1 in
    let again = reached_again c.args.task.undo job t _ _ _ _ _ _ r c.commands-commands.ensures.accepted c.requires.readable in
    let runs = c.in_ok-left-2.ensures.runs (after job (begun job t) r.ran) again.0 r.is_printed r.stands in
    let so_far = c.loop-left.invariant in
    let printed = c.loop-left.room.printed.items in (
      so_far.0 ++ printed ∷ [],
      Runs-on c.args.task.undo job (begun job t) job.script (commands_view c.in-Some.commands.now) true (option_copied c.in_ok-left-2.left) _ _ _ _ _ _ _ so_far.0 [] r runs,
      HasRead-then c.args.buffers.now c.loop-left.buffers c.run_on_text.new.buffers so_far.0 (printed ∷ []) so_far.2 c.in_ok-left-2.ensures.texts,
      c.in_ok-left-2.ensures.limit ∙ so_far.3,
    )

pub returns-clause-holds : goal.returns-clause-holds
returns-clause-holds c =
    let job = task_job c.args.task in
    let t = nodes_tree (tape_nodes c.args.tape.now) in
    let ended = rw c.in_default.is at c.loop-left.invariant.1 in
    ended.0 ∙ record_begun job (begun job t) job.script c.args.out.now.items

pub returns-clause-texts : goal.returns-clause-texts
returns-clause-texts c =
    let ended = rw c.in_default.is at c.loop-left.invariant.1 in
    subst (λ (ts : List (List ℕ)). HasRead c.args.buffers.now c.loop-left.buffers ts) (sym ended.1) c.loop-left.invariant.2
