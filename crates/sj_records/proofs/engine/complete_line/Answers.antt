use Rattle.std.proofs.Common.{◌≡◌, List, ℕ, [], ◌∷◌, ◌++◌, length, rules, sym, subst}
use Rattle.std.proofs.lemmas.List.{nil_from_length}
use Rattle.std.proofs.lemmas.Result.{on_ok_weaker}
use Rattle.sj_records.specs.Texts.{HasReadLines}
use Rattle.sj_records.specs.inside.Progress.{task_job, Wrote}
use Rattle.sj_records.proofs.engine.complete_line.Goals as goal

pub returns-then-is_empty-clause-texts : goal.returns-then-is_empty-clause-texts
returns-then-is_empty-clause-texts g c =
    let zero : length c.args.pending.now.line.items ≡ 0 = search rules in
    let none : c.args.pending.now.line.items ≡ [] = nil_from_length _ zero in
    on_ok_weaker c.write_record.result (λ read. subst (λ (line : List ℕ). HasReadLines (task_job c.args.task) c.args.buffers.now c.write_record.new.buffers ((line ++ c.args.end.now) ∷ [])) (sym none) read)
    c.write_record.ensures.texts

pub returns-clause-texts : goal.returns-clause-texts
returns-clause-texts g c =
    subst (λ (l : List ℕ). HasReadLines (task_job c.args.task) c.args.buffers.now c.write_pending.new.buffers (l ∷ [])) c.in_ok-extend_from_slice.ensures.items c.in_ok-write_pending.ensures.texts

pub returns-clause-stands : goal.returns-clause-stands
returns-clause-stands g c =
    subst (λ (l : List ℕ). Wrote (task_job c.args.task) (g.W.Sink.contents c.args.writer.now) (g.W.Sink.contents c.write_pending.new.writer) (l ∷ [])) c.in_ok-extend_from_slice.ensures.items c.in_ok-write_pending.ensures.stands
