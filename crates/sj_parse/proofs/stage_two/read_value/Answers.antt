-- Each opening of a value is a case of the descent.
use Rattle.std.proofs.Common.{◌-◌, inl, arith, refl, le-add_right}
use Rattle.std.proofs.lemmas.Result.{err_from_is_err_and}
use Rattle.sj_tape.specs.declared.node.Node.TheVariants.{String, Static}
use Rattle.sj_parse.specs.inside.Machine.{after_value}
use Rattle.sj_parse.specs.inside.Trees.{token_tree}
use Rattle.sj_parse.proofs.ScalarTokens.{number_begins, quote_begins}
use Rattle.sj_parse.proofs.ValueSteps.{the_token, makes, letter_makes, number_makes, text_node, text_fault, text_reach, word_node, word_fault, word_reach, array_step, object_step, scalar_reads, scalar_stops, nothing_begins, letter_begins}
use Rattle.sj_parse.proofs.stage_two.read_value.Goals as goal

pub returns-in-Array-clause-steps : goal.returns-in-Array-clause-steps
returns-in-Array-clause-steps c = λ ws before es st. array_step c.args.place (c.args.place - c.args.tail.now.from) before c.args.tail.now.rest.now (c.requires.token).is_inside c.args.limit c.args.unexpected ws _ _ _ c.in-Array.ensures (c.open.ensures.opens ws es st)

pub returns-in-Object-clause-steps : goal.returns-in-Object-clause-steps
returns-in-Object-clause-steps c = λ ws before es st. object_step c.args.place (c.args.place - c.args.tail.now.from) before c.args.tail.now.rest.now (c.requires.token).is_inside c.args.limit c.args.unexpected ws _ _ _ c.in-Object.ensures.0 c.in-Object.ensures.1 (c.open-in-Object.ensures.opens ws es st)

pub take_string-requires-clause-reaches : goal.take_string-requires-clause-reaches
take_string-requires-clause-reaches c =
    let within = text_reach c.args.place (c.args.place - c.args.tail.now.from) c.requires.reaches.0 c.args.tail.now.rest.now (c.requires.token).is_inside c.in-String.ensures.2 in
    let least = c.requires.reaches.1 in
    let behind = (c.requires.token).is_behind in omega arith

pub take_number-requires-clause-reaches : goal.take_number-requires-clause-reaches
take_number-requires-clause-reaches c = λ is.
    let within = word_reach c.args.place (c.args.place - c.args.tail.now.from) c.requires.reaches.0 c.args.tail.now.rest.now (c.requires.token).is_inside c.in-Number.ensures.2 is in
    let least = c.requires.reaches.1 in
    let behind = (c.requires.token).is_behind in omega arith

pub returns-in_err-text-in-String : goal.returns-in_err-text-in-String
returns-in_err-text-in-String c =
    let p = err_from_is_err_and c.from_residual.result c.from_residual.ensures.1 in record {
      steps = λ ws before es st.
          let b = c.in-String.ensures in
          let bad = text_fault c.args.place (c.args.place - c.args.tail.now.from) before c.args.tail.now.rest.now (c.requires.token).is_inside c.in_err-text-in-String.field-0.0 b.2 c.in_err-text-in-String.ensures.text in
          rw (p.1, p.2) (scalar_stops c.args.place (c.args.place - c.args.tail.now.from) before c.args.tail.now.rest.now (c.requires.token).is_inside c.args.limit c.args.unexpected ws c.in_err-text-in-String.field-0.0 b.0 b.1 (quote_begins _ b.2) bad);
      carriers = λ ts before h. rw p.1 tt;
      tail = rw p.1 tt;
      stops = rw (p.1, p.2) c.in_err-text-in-String.ensures.stops;
      capacity = (refl, refl);
      grows = (le-add_right _ 1, le-add_right _ 1);
      levels = λ within. within;
    }

pub returns-in_err-node-in-Literal : goal.returns-in_err-node-in-Literal
returns-in_err-node-in-Literal c =
    let p = err_from_is_err_and c.from_residual-in_err-node-in-Literal.result c.from_residual-in_err-node-in-Literal.ensures.1 in record {
      steps = λ ws before es st.
          let b = c.in-Literal.ensures in
          let bad = rw c.starting_at.ensures at (c.in_err-node-in-Literal.ensures.reads before) in
          rw (p.1, p.2) (scalar_stops c.args.place (c.args.place - c.args.tail.now.from) before c.args.tail.now.rest.now (c.requires.token).is_inside c.args.limit c.args.unexpected ws c.in_err-node-in-Literal.field-0.0 b.0 b.1 (letter_begins _ b.2) bad);
      carriers = λ ts before h. rw p.1 tt;
      tail = rw p.1 tt;
      stops = rw (p.1, p.2) (inl c.in_err-node-in-Literal.ensures.at);
      capacity = (refl, refl);
      grows = (le-add_right _ 1, le-add_right _ 1);
      levels = λ within. within;
    }

pub returns-in_err-node-in-Number : goal.returns-in_err-node-in-Number
returns-in_err-node-in-Number c =
    let p = err_from_is_err_and c.from_residual-in_err-node-in-Number.result c.from_residual-in_err-node-in-Number.ensures.1 in record {
      steps = λ ws before es st.
          let b = c.in-Number.ensures in
          let none = c.in_err-node-in-Number.ensures.number in
          let bad = word_fault c.args.place (c.args.place - c.args.tail.now.from) before c.args.tail.now.rest.now (c.requires.token).is_inside _ b.2 refl none.0 in
          rw (p.1, p.2, none.1) (scalar_stops c.args.place (c.args.place - c.args.tail.now.from) before c.args.tail.now.rest.now (c.requires.token).is_inside c.args.limit c.args.unexpected ws _ b.0 b.1 (number_begins _ b.2) bad);
      carriers = λ ts before h. rw p.1 tt;
      tail = rw p.1 tt;
      stops = rw (p.1, p.2, c.in_err-node-in-Number.ensures.number.1) (inl refl);
      capacity = (refl, refl);
      grows = (le-add_right _ 1, le-add_right _ 1);
      levels = λ within. within;
    }

pub returns-in_ok-text-in-String-clause-steps : goal.returns-in_ok-text-in-String-clause-steps
returns-in_ok-text-in-String-clause-steps c = λ ws before es st.
    let b = c.in-String.ensures in
    let reads = c.in_ok-text-in-String.ensures.text in
    let t = the_token c.args.place (c.args.place - c.args.tail.now.from) before c.args.tail.now.rest.now (c.requires.token).is_inside in
    let node = text_node c.args.place (c.args.place - c.args.tail.now.from) before c.args.tail.now.rest.now (c.requires.token).is_inside c.in_ok-text-in-String.text.now (String c.in_ok-text-in-String.text) b.2 reads.0 reads.1 refl tt in (
      after_value ws (token_tree t),
      c.add_scalar.ensures.at ws (token_tree t) es st node.lists,
      scalar_reads c.args.place (c.args.place - c.args.tail.now.from) before c.args.tail.now.rest.now (c.requires.token).is_inside c.args.limit c.args.unexpected ws (String c.in_ok-text-in-String.text) b.0 b.1 (quote_begins _ b.2) node,
    )

pub returns-in_ok-node-in-Literal-clause-steps : goal.returns-in_ok-node-in-Literal-clause-steps
returns-in_ok-node-in-Literal-clause-steps c = λ ws before es st.
    let b = c.in-Literal.ensures in
    let t = the_token c.args.place (c.args.place - c.args.tail.now.from) before c.args.tail.now.rest.now (c.requires.token).is_inside in
    let node = rw c.starting_at.ensures at (c.in_ok-node-in-Literal.ensures.reads before) in (
      after_value ws (token_tree t),
      c.add_scalar-in-Literal.ensures.at ws (token_tree t) es st node.lists,
      scalar_reads c.args.place (c.args.place - c.args.tail.now.from) before c.args.tail.now.rest.now (c.requires.token).is_inside c.args.limit c.args.unexpected ws (Static c.in_ok-node-in-Literal.node) b.0 b.1 (letter_begins _ b.2) node,
    )

pub returns-in_ok-node-in-Number-clause-steps : goal.returns-in_ok-node-in-Number-clause-steps
returns-in_ok-node-in-Number-clause-steps c = λ ws before es st.
    let b = c.in-Number.ensures in
    let t = the_token c.args.place (c.args.place - c.args.tail.now.from) before c.args.tail.now.rest.now (c.requires.token).is_inside in
    let node = word_node c.args.place (c.args.place - c.args.tail.now.from) before c.args.tail.now.rest.now (c.requires.token).is_inside _ c.in_ok-node-in-Number.node b.2 refl c.in_ok-node-in-Number.ensures.number in (
      after_value ws (token_tree t),
      c.add_scalar-in-Number.ensures.at ws (token_tree t) es st node.lists,
      scalar_reads c.args.place (c.args.place - c.args.tail.now.from) before c.args.tail.now.rest.now (c.requires.token).is_inside c.args.limit c.args.unexpected ws c.in_ok-node-in-Number.node b.0 b.1 (number_begins _ b.2) node,
    )

pub returns-in-Nothing-clause-steps : goal.returns-in-Nothing-clause-steps
returns-in-Nothing-clause-steps c = λ ws before es st.
    let b = c.in-Nothing.ensures in
    nothing_begins c.args.place (c.args.place - c.args.tail.now.from) before c.args.tail.now.rest.now (c.requires.token).is_inside c.args.limit c.args.unexpected ws b.0 b.1 b.2

pub returns-in_ok-text-in-String-clause-carriers : goal.returns-in_ok-text-in-String-clause-carriers
returns-in_ok-text-in-String-clause-carriers c = λ ts before.
    c.add_scalar.ensures.carriers ts (the_token c.args.place (c.args.place - c.args.tail.now.from) before c.args.tail.now.rest.now (c.requires.token).is_inside) (makes c.args.place (c.args.place - c.args.tail.now.from) before c.args.tail.now.rest.now (c.requires.token).is_inside 0x22 c.in-String.ensures.2 refl) tt

pub returns-in_ok-node-in-Literal-clause-carriers : goal.returns-in_ok-node-in-Literal-clause-carriers
returns-in_ok-node-in-Literal-clause-carriers c = λ ts before.
    c.add_scalar-in-Literal.ensures.carriers ts (the_token c.args.place (c.args.place - c.args.tail.now.from) before c.args.tail.now.rest.now (c.requires.token).is_inside) (letter_makes c.args.place (c.args.place - c.args.tail.now.from) before c.args.tail.now.rest.now (c.requires.token).is_inside c.in-Literal.ensures.2) (rw c.starting_at.ensures at (c.in_ok-node-in-Literal.ensures.reads before)).carries

pub returns-in_ok-node-in-Number-clause-carriers : goal.returns-in_ok-node-in-Number-clause-carriers
returns-in_ok-node-in-Number-clause-carriers c = λ ts before.
    c.add_scalar-in-Number.ensures.carriers ts (the_token c.args.place (c.args.place - c.args.tail.now.from) before c.args.tail.now.rest.now (c.requires.token).is_inside) (number_makes c.args.place (c.args.place - c.args.tail.now.from) before c.args.tail.now.rest.now (c.requires.token).is_inside c.in-Number.ensures.2) (word_node c.args.place (c.args.place - c.args.tail.now.from) before c.args.tail.now.rest.now (c.requires.token).is_inside _ c.in_ok-node-in-Number.node c.in-Number.ensures.2 refl c.in_ok-node-in-Number.ensures.number).carries
