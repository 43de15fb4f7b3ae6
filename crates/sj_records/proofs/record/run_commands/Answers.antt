use Rattle.std.proofs.Common.{◌≡◌, ◌<◌, ◌∷◌, ◌++◌, [], length, refl, sym, ap, ◌∙◌, subst, arith}
use Rattle.std.proofs.lemmas.List.{nil_from_length}
use Rattle.sj_base.specs.Tree.{Tree}
use Rattle.sj_scripts.specs.Script.{command_view, commands_view}
use Rattle.sj_documents.specs.Step.{State, after}
use Rattle.sj_records.specs.History.{StandFor}
use Rattle.sj_records.specs.Texts.{if_read}
use Rattle.sj_records.specs.inside.Progress.{task_job}
use Rattle.sj_records.specs.inside.Reloads.{IsPrinted}
use Rattle.sj_records.proofs.Histories.{allowed_at}
use Rattle.sj_records.proofs.RecordText.{step-on, stands_again, Running-begin, Running-more, Running-stop, Running-end}
use Rattle.sj_records.proofs.record.run_commands.Goals as goal

pub loop-command-init : goal.loop-command-init
loop-command-init g c = λ s at.
    let begin = Running-begin c.args.task.undo (task_job c.args.task) s (commands_view c.args.commands.now) c.args.is_first c.args.out.now.items in
    (begin.0, subst (λ (u : State). StandFor c.args.task.undo g.T.Document.keeping (g.T.Document.tree c.args.document) c.args.history.now.items u) (sym begin.1) at)

pub loop-command-preserved : goal.loop-command-preserved
loop-command-preserved g c = λ s at.
    let how = c.args.task.undo in
    let job = task_job c.args.task in
    let cs = commands_view c.args.commands.now in
    let behind = commands_view c.in-Some.behind.now in
    let command = command_view c.in-Some.command.now in
    let so_far = c.loop-command.invariant s at in
    let is : commands_view c.loop-command.left.now ≡ command ∷ behind = ap commands_view c.in-Some.ensures.cases.0 in
    let now = after job s so_far.0.ran in
    let may = allowed_at how cs so_far.0.ran behind command (so_far.0.parts ∙ ap (λ ls. so_far.0.ran ++ ls) is) c.requires.allowed in
    let done = step-on how job now g.T.Document.keeping (g.T.Document.tree c.run_command.new.document) c.run_command.new.history.items _ _ command c.requires.keeping (c.in_ok-is_read_again.ensures.applied now may so_far.1) in
    let more = Running-more how job s cs c.args.is_first c.args.out.now.items _ behind command _ _ _ _ [] so_far.0 is c.in_ok-put_separator.ensures done.0 (c.in_ok-is_read_again.ensures.reread now so_far.1.0 ∙ ap (λ b. if_read b c.run_command.new.text.items) c.if-is_read_again.false) in
    (more.0, subst (λ (u : State). StandFor how g.T.Document.keeping (g.T.Document.tree c.run_command.new.document) c.run_command.new.history.items u) (sym more.1) done.1)

pub returns-then-is_read_again : goal.returns-then-is_read_again
returns-then-is_read_again g c = λ s at.
    let how = c.args.task.undo in
    let job = task_job c.args.task in
    let cs = commands_view c.args.commands.now in
    let left = commands_view c.loop-command.left.now in
    let behind = commands_view c.in-Some.behind.now in
    let command = command_view c.in-Some.command.now in
    let so_far = c.loop-command.invariant s at in
    let is : left ≡ command ∷ behind = ap commands_view c.in-Some.ensures.cases.0 in
    let now = after job s so_far.0.ran in
    let may = allowed_at how cs so_far.0.ran behind command (so_far.0.parts ∙ ap (λ ls. so_far.0.ran ++ ls) is) c.requires.allowed in
    let done = step-on how job now g.T.Document.keeping (g.T.Document.tree c.run_command.new.document) c.run_command.new.history.items _ _ command c.requires.keeping (c.in_ok-is_read_again.ensures.applied now may so_far.1) in
    let more = Running-more how job s cs c.args.is_first c.args.out.now.items left behind command _ _ _ _ (c.run_command.new.text.items ∷ []) so_far.0 is c.in_ok-put_separator.ensures done.0 (c.in_ok-is_read_again.ensures.reread now so_far.1.0 ∙ ap (λ b. if_read b c.run_command.new.text.items) c.if-is_read_again.true) in
    let stands = subst (λ (u : State). StandFor how g.T.Document.keeping (g.T.Document.tree c.run_command.new.document) c.run_command.new.history.items u) (sym more.1) done.1 in
    let again = stands_again how _ _ (g.T.Document.tree c.run_command.new.document) c.run_command.new.history.items (after job s more.0.ran) c.requires.keeping stands in
    let printed = subst (λ (t : Tree). IsPrinted t c.run_command.new.text.items) (sym stands.0) (c.in_ok-is_read_again.ensures.printed c.if-is_read_again.true) in
    let within = so_far.0.within in
    let one_less = ap (λ ls. length ls) is in
    let fewer : length behind < length cs = omega arith in
    Running-stop how job s cs c.args.is_first c.args.out.now.items behind _ c.run_command.new.history.items _ _ more.0 refl fewer printed again

pub returns : goal.returns
returns g c = λ s at.
    let so_far = c.loop-command.invariant s at in
    let none : commands_view c.loop-command.left.now ≡ [] = ap commands_view (nil_from_length _ c.in_default.ensures.cases) in
    Running-end c.args.task.undo (task_job c.args.task) s (commands_view c.args.commands.now) c.args.is_first c.args.out.now.items _ _ _ _ _ _ _ so_far.0 none so_far.1.0
    c.in_ok-extend_from_slice.ensures.items c.in_ok-text.ensures c.in_ok-push.ensures.items
