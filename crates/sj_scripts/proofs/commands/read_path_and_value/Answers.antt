use Rattle.std.proofs.Common.{List, ◌∷◌, [], ◌++◌, sym, ap, ◌∙◌}
use Rattle.std.proofs.lemmas.Result.{err_from_is_err_and}
use Rattle.sj_scripts.specs.Values.{OwnedValue}
use Rattle.sj_scripts.proofs.ScriptSteps.{value_fault, value_read}
use Rattle.sj_scripts.proofs.commands.read_path_and_value.Goals as goal

pub returns-in_err-path : goal.returns-in_err-path
returns-in_err-path c =
    let p = err_from_is_err_and c.from_residual.result c.from_residual.ensures.1 in
    let is = c.in-Some.ensures.items ∙ ap (λ (l : List OwnedValue). l ++ c.in-Some.value ∷ []) (sym c.deref.ensures.value) in
    rw (p.1, p.2) (value_fault c.args.arguments.items c.deref.result.now c.in-Some.value is _ c.in_err-path.ensures)

pub returns : goal.returns
returns c =
    let is = c.in-Some.ensures.items ∙ ap (λ (l : List OwnedValue). l ++ c.in-Some.value ∷ []) (sym c.deref.ensures.value) in
    value_read c.args.arguments.items c.deref.result.now c.in-Some.value is _ c.in_ok-new.field-0.value c.in_ok-path.ensures c.in_ok-new.ensures.value
