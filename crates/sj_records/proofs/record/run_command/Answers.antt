use Rattle.sj_scripts.specs.Script.{command_view}
use Rattle.sj_records.proofs.Histories.{histories_stand, writes_kept}
use Rattle.sj_records.proofs.Texts.{none_reread}
use Rattle.sj_records.proofs.record.run_command.Goals as goal

pub returns-in_ok-apply-in_default : goal.returns-in_ok-apply-in_default
returns-in_ok-apply-in_default g c = record {
  applied = λ s may stand. histories_stand c.args.task.undo g.T.Document.keeping c.args.task.depth (g.T.Document.tree c.args.document.now) (g.T.Document.tree c.apply.new.document) c.args.history.now.items c.apply.new.history.items c.args.out.now.items c.apply.new.out.items
      (command_view c.args.command.now) s (writes_kept c.args.command.now) may c.in_ok-apply-in_default.ensures stand;
  printed = λ e. absurd cc;
  reread = λ s same. none_reread c.args.command.now s c.in_default.not-Reload c.in_default.not-ReloadPp;
}
