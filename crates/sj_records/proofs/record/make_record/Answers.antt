use Rattle.std.proofs.Common.{ℕ, List, ◌++◌, ◌∷◌, [], ap, ◌∙◌}
use Rattle.sj_records.proofs.record.make_record.Goals as goal

pub returns-clause-holds : goal.returns-clause-holds
returns-clause-holds c =
    let record_made = c.in_ok-put_record.ensures.holds in
    (record_made.0, c.in_ok-push.ensures.items ∙ ap (λ (b : List ℕ). b ++ 0x0a ∷ []) (record_made.1 ∙ ap (λ (b : List ℕ). b ++ record_made.0) c.clear_text-3.ensures.items), record_made.2)

pub returns-clause-texts : goal.returns-clause-texts
returns-clause-texts c = c.in_ok-put_record.ensures.texts
