use Rattle.std.proofs.Common.{◌*◌, ◌-◌, List, ℕ, ◌++◌, replicate, subst, arith}
use Rattle.std.proofs.lemmas.Result.{err_from_is_err_and}
use Rattle.std.proofs.lemmas.List.{take-replicate}
use Rattle.sj_base.proofs.Prints.{levels_first}
use Rattle.sj_base.proofs.Towards.{same_left, step, fault}
use Rattle.sj_base.proofs.put.print_indent.Goals as goal

pub returns-in_err-put : goal.returns-in_err-put
returns-in_err-put g c =
    let levels = c.min-levels.result in
    let run : List ℕ = replicate (2 * levels) 0x20 in
    let behind : List ℕ = replicate (2 * (c.loop-left.left - levels)) 0x20 in
    let ahead = same_left (run ++ behind) c.loop-left.invariant (levels_first c.loop-left.left levels (omega (arith, c.min-levels.ensures))) in
    let begun = subst (λ (xs : List ℕ). g.O.Output.begins c.loop-left.out c.put.new.self xs) (take-replicate (2 * levels) 64 0x20 (omega (arith, c.min-levels.ensures))) c.in_err-put.ensures in
    rw (err_from_is_err_and c.from_residual.result c.from_residual.ensures.1).1 (fault g.met.O.Output.laws run behind ahead begun)

pub loop-left-preserved : goal.loop-left-preserved
loop-left-preserved g c =
    let levels = c.min-levels.result in
    let run : List ℕ = replicate (2 * levels) 0x20 in
    let behind : List ℕ = replicate (2 * (c.loop-left.left - levels)) 0x20 in
    let ahead = same_left (run ++ behind) c.loop-left.invariant (levels_first c.loop-left.left levels (omega (arith, c.min-levels.ensures))) in
    let printed = subst (λ (xs : List ℕ). g.O.Output.appends c.loop-left.out c.put.new.self xs) (take-replicate (2 * levels) 64 0x20 (omega (arith, c.min-levels.ensures))) c.in_ok-put.ensures in
    step g.met.O.Output.laws run behind ahead printed
