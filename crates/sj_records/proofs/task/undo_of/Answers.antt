use Rattle.std.proofs.Common.{◌≡◌, ◌+◌, Bool, true, ◌∷◌, drop, refl, sym, ap, subst, ◌∙◌}
use Rattle.std.specs.Prelude.{if◌then◌else◌}
use Rattle.std.specs.List.{list_any}
use Rattle.std.proofs.lemmas.List.{at_drop_more}
use Rattle.sj_documents.specs.declared.inverse.Undo.TheVariants.{Possible, Impossible}
use Rattle.sj_scripts.specs.declared.script.Command.{Command}
use Rattle.sj_scripts.specs.Script.{commands_view}
use Rattle.sj_records.specs.History.{is_undo}
use Rattle.sj_records.proofs.task.undo_of.Goals as goal
use Rattle.sj_records.proofs.task.undo_of.Goals.{in-Undo, in_default}

pub returns-then-matches : goal.returns-then-matches
returns-then-matches c =
    let cs = c.args.commands.now in
    let i = c.loop-command.command-index in
    let command = c.command-item.result in
    elim c.match-matches.branch [
      | in-Undo w ↦
          let found = subst (λ (d : Command). list_any is_undo (commands_view (d ∷ drop (i + 1) cs)) ≡ true) (sym w.in-Undo.is ∙ c.command-item.is) refl in
          let any = sym c.loop-command.invariant ∙ at_drop_more (λ ds. list_any is_undo (commands_view ds)) cs i command c.loop-command-test.true ∙ found in
          sym (ap (λ (b : Bool). if b then Possible else Impossible) any)
      | in_default w ↦ absurd cc
    ]
