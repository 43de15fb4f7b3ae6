use Rattle.std.proofs.Common.{codes, ap, ◌∙◌, sym}
use Rattle.std.specs.Prelude.{option_and_then}
use Rattle.clap.specs.Words.{found_of, rows_of}
use Rattle.records_program.specs.Arguments.{form_named, repeats_named}
use Rattle.records_program.proofs.Matches.{value-some, value-none, no-script, no-form, no-rule, no-depth, no-number, parsed-number}
use Rattle.records_program.proofs.arguments.run_of.Goals as goal

pub returns-in_err-script-clause-none : goal.returns-in_err-script-clause-none
returns-in_err-script-clause-none c =
    let f = found_of c.args.matches.now in
    λ none run. no-script (rows_of f) run (value-none f (codes "SCRIPT") _ c.get_str.ensures c.in_err-script.was)

pub returns-in_err-get_str-clause-none : goal.returns-in_err-get_str-clause-none
returns-in_err-get_str-clause-none c =
    let f = found_of c.args.matches.now in
    λ none run. no-form (rows_of f) run (ap (option_and_then form_named) (value-none f (codes "form") _ c.get_str-2.ensures c.in_err-get_str.was))

pub returns-in_err-form-clause-none : goal.returns-in_err-form-clause-none
returns-in_err-form-clause-none c =
    let f = found_of c.args.matches.now in
    let name = value-some f (codes "form") _ _ c.get_str-2.ensures c.in_ok-get_str.was in
    λ none run. no-form (rows_of f) run (ap (option_and_then form_named) name ∙ (sym c.find_form.ensures ∙ c.in_err-form.was))

pub returns-in_err-get_str-2-clause-none : goal.returns-in_err-get_str-2-clause-none
returns-in_err-get_str-2-clause-none c =
    let f = found_of c.args.matches.now in
    λ none run. no-rule (rows_of f) run (ap (option_and_then repeats_named) (value-none f (codes "repeats") _ c.get_str-3.ensures c.in_err-get_str-2.was))

pub returns-in_err-repeats-clause-none : goal.returns-in_err-repeats-clause-none
returns-in_err-repeats-clause-none c =
    let f = found_of c.args.matches.now in
    let name = value-some f (codes "repeats") _ _ c.get_str-3.ensures c.in_ok-get_str-2.was in
    λ none run. no-rule (rows_of f) run (ap (option_and_then repeats_named) name ∙ (sym c.find_repeats.ensures ∙ c.in_err-repeats.was))

pub returns-in_err-get_str-3-clause-none : goal.returns-in_err-get_str-3-clause-none
returns-in_err-get_str-3-clause-none c =
    let f = found_of c.args.matches.now in
    λ none run. no-depth (rows_of f) run (value-none f (codes "depth") _ c.get_str-4.ensures c.in_err-get_str-3.was)

pub returns-in_err-depth-clause-none : goal.returns-in_err-depth-clause-none
returns-in_err-depth-clause-none c =
    let f = found_of c.args.matches.now in
    let text = value-some f (codes "depth") _ _ c.get_str-4.ensures c.in_ok-get_str-3.was in
    λ none run. no-number (rows_of f) run _ _ text c.parse.ensures.value.0 (sym c.ok.ensures.value ∙ c.in_err-depth.was)

pub returns-clause-some : goal.returns-clause-some
returns-clause-some c =
    let f = found_of c.args.matches.now in
    let script = value-some f (codes "SCRIPT") _ _ c.get_str.ensures c.in_ok-script.was in
    let name = value-some f (codes "form") _ _ c.get_str-2.ensures c.in_ok-get_str.was in
    let rule = value-some f (codes "repeats") _ _ c.get_str-3.ensures c.in_ok-get_str-2.was in
    let text = value-some f (codes "depth") _ _ c.get_str-4.ensures c.in_ok-get_str-3.was in
    let repeats = ap (option_and_then repeats_named) rule ∙ (sym c.find_repeats.ensures ∙ c.in_ok-repeats.was) in
    let form = ap (option_and_then form_named) name ∙ (sym c.find_form.ensures ∙ c.in_ok-form.was) in
    (script, form, repeats, (c.in_ok-get_str-3.field-0.now, text, parsed-number c.in_ok-get_str-3.field-0.now _ _ c.parse.ensures.value.0 (sym c.ok.ensures.value ∙ c.in_ok-depth.was)))
