use Rattle.std.proofs.Common.{[], ◌++◌}
use Rattle.std.proofs.lemmas.Result.{err_from_is_err_and}
use Rattle.sj_base.specs.Text.{quoted}
use Rattle.sj_base.specs.Layout.{before_next, colon}
use Rattle.sj_base.proofs.Prints.{prints_behind}
use Rattle.sj_base.proofs.layout.Container.key.Goals as goal

pub returns-in_ok-next-in-Ok-false-clause-printed : goal.returns-in_ok-next-in-Ok-false-clause-printed
returns-in_ok-next-in-Ok-false-clause-printed g c =
    let l = g.met.O.Output.laws in
    let front = before_next c.args.self.now in
    let nothing = rw c.in-Ok-false.field-0-test at c.in-Ok-false.ensures.ok in
    prints_behind l c.print_key.result _ _ _ front (quoted c.args.key.now ++ colon c.args.self.now.inside) (l.then _ _ _ [] front nothing c.in_ok-next-in-Ok-false.ensures.printed) (rw c.in_ok-next-in-Ok-false.ensures.container at c.print_key.ensures)

pub returns-in_err-next-in-Ok-false-clause-printed : goal.returns-in_err-next-in-Ok-false-clause-printed
returns-in_err-next-in-Ok-false-clause-printed g c =
    let l = g.met.O.Output.laws in
    let front = before_next c.args.self.now in
    let nothing = rw c.in-Ok-false.field-0-test at c.in-Ok-false.ensures.ok in
    rw (err_from_is_err_and c.from_residual.result c.from_residual.ensures.1).1 (l.before _ _ front (quoted c.args.key.now ++ colon c.args.self.now.inside) (l.fails _ _ _ [] front nothing c.in_err-next-in-Ok-false.ensures.printed))
