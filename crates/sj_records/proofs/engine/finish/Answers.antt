use Rattle.std.proofs.Common.{◌≢◌, ℕ, List, [], rules, sym, subst}
use Rattle.std.proofs.lemmas.Result.{on_ok_weaker}
use Rattle.sj_records.specs.Texts.{HasReadLines}
use Rattle.sj_records.specs.inside.Progress.{task_job}
use Rattle.sj_records.proofs.Cut.{if_any-some}
use Rattle.sj_records.proofs.engine.finish.Goals as goal

pub returns-clause-texts : goal.returns-clause-texts
returns-clause-texts g c =
    let some : c.args.pending.now.line.items ≢ [] = search rules in
    on_ok_weaker c.write_pending.result (λ read. subst (λ (ls : List (List ℕ)). HasReadLines (task_job c.args.task) c.args.buffers.now c.write_pending.new.buffers ls) (sym (if_any-some c.args.pending.now.line.items some)) read)
    c.write_pending.ensures.texts
