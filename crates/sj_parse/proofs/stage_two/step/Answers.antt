-- What the role of the token's first byte says of each place where the code may be.
use Rattle.std.proofs.Common.{◌-◌, List, [], ◌∷◌, ◌++◌, ap, sym, ◌∙◌, refl, subst, arith, rules}
use Rattle.std.proofs.lemmas.Result.{err_from_is_err_and}
use Rattle.sj_tape.specs.Nodes.{entries}
use Rattle.sj_tape.specs.declared.node.Node.{Node}
use Rattle.sj_tape.specs.declared.node.Node.TheVariants.{String}
use Rattle.sj_parse.specs.Nodes.{HaveCarriers}
use Rattle.sj_parse.specs.inside.Trees.{decoded}
use Rattle.sj_parse.specs.inside.Step.{value_from}
use Rattle.sj_parse.proofs.ScalarTokens.{token_byte}
use Rattle.sj_parse.proofs.OpenContainers.{carriers-one, entries-one}
use Rattle.sj_parse.proofs.ValueSteps.{the_token, text_node, text_fault, text_reach, quote_text}
use Rattle.sj_parse.proofs.StepCases.{closes, step_close, step_separator, step_key, step_bad_key, step_value, step_unexpected, key_byte, key_makes_node, steps_as}
use Rattle.sj_parse.proofs.stage_two.step.Goals as goal

pub close-requires : goal.close-requires
close-requires c = closes c.requires.at.0 c.args.state _ _ _ c.requires.at.1 (sym c.role.ensures ∙ c.in-Close.is)

pub returns-in_err-key-in-Key-clause-steps : goal.returns-in_err-key-in-Key-clause-steps
returns-in_err-key-in-Key-clause-steps c = λ now before at.
    let p = err_from_is_err_and c.from_residual.result c.from_residual.ensures.1 in
    let is = sym c.role.ensures ∙ c.in-Key.is in
    let quote = key_byte c.args.state _ is in
    let bad = text_fault c.args.place (c.args.place - c.args.tail.now.from) before c.args.tail.now.rest.now (c.requires.token).is_inside c.in_err-key-in-Key.field-0.0 quote c.in_err-key-in-Key.ensures.text in
    rw (p.1, p.2) (step_bad_key c.args.limit c.args.place (c.args.place - c.args.tail.now.from) before c.args.tail.now.rest.now (c.requires.token).is_inside now c.args.state _ _ at c.in_err-key-in-Key.field-0.0 is bad)

pub take_string-requires-clause-reaches : goal.take_string-requires-clause-reaches
take_string-requires-clause-reaches c =
    let within = text_reach c.args.place (c.args.place - c.args.tail.now.from) c.requires.reaches.0 c.args.tail.now.rest.now (c.requires.token).is_inside (key_byte c.args.state _ (sym c.role.ensures ∙ c.in-Key.is)) in
    let least = c.requires.reaches.1 in
    let behind = (c.requires.token).is_behind in omega arith

pub read_value-requires-clause-waits : goal.read_value-requires-clause-waits
read_value-requires-clause-waits c =
    let w = step_value c.args.limit c.args.place (c.args.place - c.args.tail.now.from) [] c.args.tail.now.rest.now (c.requires.token).is_inside c.requires.at.0 c.args.state _ _ c.requires.at.1 (sym c.role.ensures ∙ c.in-Value.is) in
    (w.0, w.1, w.2)

pub returns-in-Close-clause-steps : goal.returns-in-Close-clause-steps
returns-in-Close-clause-steps c = λ now before at.
    step_close c.args.limit c.args.place (c.args.place - c.args.tail.now.from) before c.args.tail.now.rest.now (c.requires.token).is_inside now c.args.state _ _ at c.close.result _ _ (sym c.role.ensures ∙ c.in-Close.is) c.close.ensures.array c.close.ensures.object

pub returns-in-Separator-clause-steps : goal.returns-in-Separator-clause-steps
returns-in-Separator-clause-steps c = λ now before at.
    step_separator c.args.limit c.args.place (c.args.place - c.args.tail.now.from) before c.args.tail.now.rest.now (c.requires.token).is_inside now c.args.state _ _ at _ (sym c.role.ensures ∙ c.in-Separator.is)

pub returns-in_ok-key-in-Key-clause-steps : goal.returns-in_ok-key-in-Key-clause-steps
returns-in_ok-key-in-Key-clause-steps c = λ now before at.
    let is = sym c.role.ensures ∙ c.in-Key.is in
    let quote = key_byte c.args.state _ is in
    let reads = c.in_ok-key-in-Key.ensures.text in
    let node = text_node c.args.place (c.args.place - c.args.tail.now.from) before c.args.tail.now.rest.now (c.requires.token).is_inside c.in_ok-key-in-Key.key.now (String c.in_ok-key-in-Key.key) quote reads.0 reads.1 refl tt in
    step_key c.args.limit c.args.place (c.args.place - c.args.tail.now.from) before c.args.tail.now.rest.now (c.requires.token).is_inside now c.args.state _ _ at c.in_ok-key-in-Key.key.now _ is node.is_right
    (reads.1 ∙ ap decoded (sym (quote_text c.args.place (c.args.place - c.args.tail.now.from) before c.args.tail.now.rest.now (c.requires.token).is_inside quote)))
    (ap entries c.push_reserved.ensures.items ∙ entries-one c.args.nodes.now.items (String c.in_ok-key-in-Key.key))

pub returns-in_ok-key-in-Key-clause-carriers : goal.returns-in_ok-key-in-Key-clause-carriers
returns-in_ok-key-in-Key-clause-carriers c = λ ts before h.
    let t = the_token c.args.place (c.args.place - c.args.tail.now.from) before c.args.tail.now.rest.now (c.requires.token).is_inside in
    let quote = key_byte c.args.state _ (sym c.role.ensures ∙ c.in-Key.is) in
    subst (λ (ns : List Node). HaveCarriers (ts ++ t ∷ []) ns) (sym c.push_reserved.ensures.items)
    (carriers-one ts c.args.nodes.now.items t (String c.in_ok-key-in-Key.key) (key_makes_node t (token_byte c.args.place before c.args.tail.now.rest.now (c.args.place - c.args.tail.now.from) ∙ quote)) tt h)

pub returns-in-Value-clause-steps : goal.returns-in-Value-clause-steps
returns-in-Value-clause-steps c = λ now before at.
    let w = step_value c.args.limit c.args.place (c.args.place - c.args.tail.now.from) before c.args.tail.now.rest.now (c.requires.token).is_inside now c.args.state _ _ at (sym c.role.ensures ∙ c.in-Value.is) in
    let reads = c.read_value.ensures.steps w.0 before w.1 w.2 in
    steps_as c.args.limit c.args.place _ _ c.read_value.result _ _ (λ last ts. w.3 last ts ∙ ap (λ k. value_from c.args.limit k w.0 (the_token c.args.place (c.args.place - c.args.tail.now.from) before c.args.tail.now.rest.now (c.requires.token).is_inside) last ts) (sym c.unexpected.ensures)) reads

pub returns-in-Unexpected-clause-steps : goal.returns-in-Unexpected-clause-steps
returns-in-Unexpected-clause-steps c = λ now before at last ts.
    rw c.unexpected-in-Unexpected.ensures (step_unexpected c.args.limit c.args.place (c.args.place - c.args.tail.now.from) before c.args.tail.now.rest.now (c.requires.token).is_inside now c.args.state _ _ at c.requires.goes_on (sym c.role.ensures ∙ c.in-Unexpected.is) last ts)

pub returns-in-Unexpected-clause-stops : goal.returns-in-Unexpected-clause-stops
returns-in-Unexpected-clause-stops c = search rules
