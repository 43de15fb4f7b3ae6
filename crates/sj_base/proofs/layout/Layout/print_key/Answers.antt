use Rattle.std.proofs.lemmas.Result.{err_from_is_err_and}
use Rattle.sj_base.specs.Text.{quoted}
use Rattle.sj_base.specs.Layout.{colon}
use Rattle.sj_base.proofs.Prints.{prints_behind}
use Rattle.sj_base.proofs.layout.Layout.print_key.Goals as goal

pub returns-in_err-print_quoted_key : goal.returns-in_err-print_quoted_key
returns-in_err-print_quoted_key g c =
    let l = g.met.O.Output.laws in
    rw (err_from_is_err_and c.from_residual.result c.from_residual.ensures.1).1 (l.before _ _ (quoted c.args.key.now) (colon c.args.self) c.in_err-print_quoted_key.ensures)

pub returns : goal.returns
returns g c =
    prints_behind g.met.O.Output.laws c.print_colon.result _ _ _ (quoted c.args.key.now) (colon c.args.self) c.in_ok-print_quoted_key.ensures c.print_colon.ensures
