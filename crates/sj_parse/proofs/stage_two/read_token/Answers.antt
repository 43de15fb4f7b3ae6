use denote.Enum.Bare.{same_true}
use Rattle.std.proofs.Common.{◌≢◌, rules, sym, ap, ◌∙◌}
use Rattle.std.proofs.lemmas.Bool.{not-true, not-false}
use Rattle.sj_tape.specs.Nodes.{entries}
use Rattle.sj_parse.specs.contracts.stage_two.State.{the_type}
use Rattle.sj_parse.specs.declared.stage_two.State.TheVariants.{End}
use Rattle.sj_parse.proofs.Underway.{inside, holds, reaches, is_text, node_fits, frame_fits, stops, cut, left, goes_on}
use Rattle.sj_parse.proofs.stage_two.read_token.Goals as goal

pub bounds-cursor-place : goal.bounds-cursor-place
bounds-cursor-place c = inside c.requires.at.2 c.requires.goes_on

pub step-requires-clause-token : goal.step-requires-clause-token
step-requires-clause-token c = holds c.requires.at.2 c.requires.goes_on c.place_at-next.ensures.place

pub step-requires-clause-body : goal.step-requires-clause-body
step-requires-clause-body c = is_text c.requires.at.2 c.requires.goes_on

pub step-requires-clause-reaches : goal.step-requires-clause-reaches
step-requires-clause-reaches c = reaches c.requires.at.2 c.requires.goes_on c.place_at-next.ensures.place

pub step-requires-clause-nodes : goal.step-requires-clause-nodes
step-requires-clause-nodes c = node_fits c.requires.at.2 c.requires.goes_on

pub step-requires-clause-stack : goal.step-requires-clause-stack
step-requires-clause-stack c = frame_fits c.requires.at.2 c.requires.goes_on

pub returns-in-Err-clause-reads : goal.returns-in-Err-clause-reads
returns-in-Err-clause-reads c = λ input read u.
    stops u c.requires.goes_on c.place_at-next.new.places c.step.new.nodes c.step.new.stack c.place_at-next.ensures.items c.place_at-next.ensures.places c.in-Err.ensures.grows.0 c.in-Err.ensures.grows.1 c.in-Err.ensures.levels
    c.in-Err.stop _
    (λ before. c.in-Err.ensures.steps (u.between).config before (u.between).at)
    c.in-Err.ensures.stops
    c.fault.ensures

pub returns-then-eq-clause-reads : goal.returns-then-eq-clause-reads
returns-then-eq-clause-reads c = λ input read u.
    let is_end = same_true the_type (search rules) _ _ (sym c.eq.ensures ∙ c.if-eq.true) in
    goes_on u c.requires.goes_on c.place_at-next.new.places c.step.new.nodes c.step.new.stack c.place_at-next.ensures.items c.place_at-next.ensures.places c.in-Ok.ensures.grows.0 c.in-Ok.ensures.grows.1 c.in-Ok.ensures.levels
    (λ before. c.in-Ok.ensures.steps (u.between).config before (u.between).at)
    c.step.new.tail c.place_at-next.result.0 c.place_at-next.ensures.place c.in-Ok.ensures.carriers c.in-Ok.ensures.tail c.in-Ok.ensures.capacity.0 c.in-Ok.ensures.capacity.1
    (λ e. not-true _ (sym (sym c.if-is_last.true ∙ c.place_at-next.ensures.is_last)))
    (λ n. absurd (n is_end))

pub returns-then-is_last-clause-reads : goal.returns-then-is_last-clause-reads
returns-then-is_last-clause-reads c = λ input read u.
    cut u c.requires.goes_on c.place_at-next.new.places c.step.new.nodes c.step.new.stack c.place_at-next.ensures.items c.place_at-next.ensures.places c.in-Ok.ensures.grows.0 c.in-Ok.ensures.grows.1 c.in-Ok.ensures.levels
    (λ before. c.in-Ok.ensures.steps (u.between).config before (u.between).at)
    (sym c.if-is_last.true ∙ c.place_at-next.ensures.is_last) (search rules)

pub returns-then-eq-2-clause-reads : goal.returns-then-eq-2-clause-reads
returns-then-eq-2-clause-reads c = λ input read u.
    left u c.requires.goes_on c.place_at-next.new.places c.step.new.nodes c.step.new.stack c.place_at-next.ensures.items c.place_at-next.ensures.places c.in-Ok.ensures.grows.0 c.in-Ok.ensures.grows.1 c.in-Ok.ensures.levels
    (λ before. c.in-Ok.ensures.steps (u.between).config before (u.between).at)
    (sym c.if-is_last.false ∙ c.place_at-next.ensures.is_last) (same_true the_type (search rules) _ _ (sym c.eq-in-Ok.ensures ∙ c.if-eq-2.true))
    c.left_kind-kind.result (λ t e. c.left_kind-kind.ensures t (ap entries c.deref.ensures.value ∙ e))

pub returns-else-eq-2-clause-reads : goal.returns-else-eq-2-clause-reads
returns-else-eq-2-clause-reads c = λ input read u.
    let more : c.in-Ok.after ≢ End = search rules in
    goes_on u c.requires.goes_on c.place_at-next.new.places c.step.new.nodes c.step.new.stack c.place_at-next.ensures.items c.place_at-next.ensures.places c.in-Ok.ensures.grows.0 c.in-Ok.ensures.grows.1 c.in-Ok.ensures.levels
    (λ before. c.in-Ok.ensures.steps (u.between).config before (u.between).at)
    c.step.new.tail c.place_at-next.result.0 c.place_at-next.ensures.place c.in-Ok.ensures.carriers c.in-Ok.ensures.tail c.in-Ok.ensures.capacity.0 c.in-Ok.ensures.capacity.1
    (λ e. absurd (more e))
    (λ n. not-false _ (sym (sym c.if-is_last.false ∙ c.place_at-next.ensures.is_last)))
