use Rattle.std.proofs.Common.{◌*◌, [], ◌∷◌, replicate}
use Rattle.std.proofs.lemmas.Result.{err_from_is_err_and}
use Rattle.sj_base.proofs.Prints.{prints_behind}
use Rattle.sj_base.proofs.put.print_break.Goals as goal

pub returns-in_err-put : goal.returns-in_err-put
returns-in_err-put g c =
    let l = g.met.O.Output.laws in
    rw (err_from_is_err_and c.from_residual.result c.from_residual.ensures.1).1 (l.before _ _ (0x0a ∷ []) (replicate (2 * c.args.level) 0x20) c.in_err-put.ensures)

pub returns : goal.returns
returns g c =
    prints_behind g.met.O.Output.laws c.print_indent.result _ _ _ (0x0a ∷ []) (replicate (2 * c.args.level) 0x20) c.in_ok-put.ensures c.print_indent.ensures
