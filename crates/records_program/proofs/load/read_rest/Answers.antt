use Rattle.std.proofs.Common.{Result, Ok, Err, OnErr, arith, ◌∙◌}
use Rattle.std.proofs.KnownBytes.{Consumes-trans}
use Rattle.std.proofs.lemmas.Grind.{common_steps}
use Rattle.records_program.proofs.load.read_rest.Goals as goal

on_err : {A E P : Type 0} (r : Result A E) → P → OnErr r P
on_err (Ok x) p = tt
on_err (Err e) p = p

pub returns-in_err-extend_from_slice-in-Ok-clause-partial : goal.returns-in_err-extend_from_slice-in-Ok-clause-partial
returns-in_err-extend_from_slice-in-Ok-clause-partial g c =
    let before = c.loop.invariant in
    on_err c.from_residual.result
    (before.0, _, c.in_err-extend_from_slice-in-Ok.ensures.items ∙ before.1, Consumes-trans _ _ _ before.0 _ before.2 c.in-Ok.ensures.bytes.0)

pub loop-preserved : goal.loop-preserved
loop-preserved g c = grind (arith, common_steps)
