use Rattle.std.proofs.Common.{true, cond, bytes_eq, ap₂, ◌∙◌}
use Rattle.std.proofs.lemmas.Map.Text.{is_eq-slice_cmp}
use Rattle.sj_tape.specs.inside.Earlier.{texts}
use Rattle.sj_tape.proofs.Repeating.{among_last, any_map}
use Rattle.sj_tape.proofs.repeat.is_met.Goals as goal

pub returns-in_ok-insert-in-Some-clause-lists : goal.returns-in_ok-insert-in-Some-clause-lists
returns-in_ok-insert-in-Some-clause-lists c =
    let key = c.args.key in
    λ k.
    c.in_ok-insert-in-Some.ensures.updates.0 (record key { now = k })
    ∙ ap₂ (λ b had. cond b true had) (is_eq-slice_cmp key.now k) ((rw c.in-Some.is at c.requires) k)
    ∙ among_last (texts c.args.earlier.now) key.now k

pub returns-in-None-clause-found : goal.returns-in-None-clause-found
returns-in-None-clause-found c = c.contains.ensures.value ∙ any_map (λ key. key.now) (λ name. bytes_eq name c.args.key.now) c.args.earlier.now
