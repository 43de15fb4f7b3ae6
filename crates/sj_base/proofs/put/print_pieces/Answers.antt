use Rattle.std.proofs.Common.{List, ℕ, [], ◌∷◌, ◌++◌, flat_map, subst}
use Rattle.std.proofs.lemmas.Result.{err_from_is_err_and}
use Rattle.sj_base.specs.Text.{escaped}
use Rattle.sj_base.proofs.Prints.{prints_behind}
use Rattle.sj_base.proofs.put.print_pieces.Goals as goal

pub returns-in_err-put : goal.returns-in_err-put
returns-in_err-put g c =
    let l = g.met.O.Output.laws in
    rw (err_from_is_err_and c.from_residual.result c.from_residual.ensures.1).1 (l.before _ _ (0x22 ∷ []) (flat_map escaped c.args.text.now ++ 0x22 ∷ []) c.in_err-put.ensures)

pub returns-in_err-print_runs : goal.returns-in_err-print_runs
returns-in_err-print_runs g c =
    let l = g.met.O.Output.laws in
    let body = flat_map escaped c.args.text.now in
    rw (err_from_is_err_and c.from_residual-in_err-print_runs.result c.from_residual-in_err-print_runs.ensures.1).1 (l.fails _ _ _ (0x22 ∷ []) (body ++ 0x22 ∷ []) c.in_ok-put.ensures (l.before _ _ body (0x22 ∷ []) (subst (λ (s : List ℕ). g.O.Output.begins c.put.new.self c.print_runs.new.out (flat_map escaped s)) c.as_bytes.ensures.value c.in_err-print_runs.ensures)))

pub returns : goal.returns
returns g c =
    let l = g.met.O.Output.laws in
    let body = flat_map escaped c.args.text.now in
    let printed = subst (λ (s : List ℕ). g.O.Output.appends c.put.new.self c.print_runs.new.out (flat_map escaped s)) c.as_bytes.ensures.value c.in_ok-print_runs.ensures in
    prints_behind l c.put-2.result _ _ _ (0x22 ∷ []) (body ++ 0x22 ∷ []) c.in_ok-put.ensures (prints_behind l c.put-2.result _ _ _ body (0x22 ∷ []) printed c.put-2.ensures)
