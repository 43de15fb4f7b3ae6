use Rattle.std.proofs.Common.{◌∙◌}
use Rattle.sj_records.specs.inside.Progress.{task_job}
use Rattle.sj_records.proofs.Texts.{if_ok}
use Rattle.sj_records.proofs.Written.{LeavesLines-written}
use Rattle.sj_records.proofs.engine.write_record.Goals as goal

pub returns-clause-stands : goal.returns-clause-stands
returns-clause-stands g c =
    let made = c.in_ok-make_record.ensures.holds in
    LeavesLines-written (task_job c.args.task) _ _ c.args.line.now made.0 _ c.write_all.result (c.deref.ensures.value ∙ made.1) made.2 c.write_all.ensures.stands

pub returns-clause-texts : goal.returns-clause-texts
returns-clause-texts g c = if_ok c.write_all.result c.in_ok-make_record.ensures.texts
