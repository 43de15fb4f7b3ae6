use Rattle.std.proofs.Common.{ap₂, ◌∙◌}
use Rattle.clap.specs.Words.{with_rule}
use Rattle.records_program.proofs.arguments.command.Goals as goal

pub returns : goal.returns
returns c =
    let form = c.in_ok-arg.ensures.shape c.form_argument.ensures.local ∙ ap₂ with_rule c.in_ok-texts.ensures c.form_argument.ensures.rule in
    let depth = c.in_ok-arg-2.ensures.shape c.depth_argument.ensures.local ∙ ap₂ with_rule form c.depth_argument.ensures.rule in
    let repeats = c.in_ok-arg-3.ensures.shape c.repeats_argument.ensures.local ∙ ap₂ with_rule depth c.repeats_argument.ensures.rule in
    c.in_ok-command.ensures.shape c.script_argument.ensures.local ∙ ap₂ with_rule repeats c.script_argument.ensures.rule
