-- A fault is at a backslash of the body.
use Rattle.std.proofs.Common.{◌≡◌, ℕ, List, drop, ◌+◌, ap, ◌∙◌, arith}
use Rattle.std.proofs.lemmas.Grind.{common_steps}
use Rattle.sj_parse.specs.Escapes.{bad_escape}
use Rattle.sj_parse.specs.inside.Step.{string_body}
use Rattle.std.proofs.lemmas.Result.{err_from_is_err_and}
use Rattle.sj_parse.proofs.Bodies.{string_stop-at}
use Rattle.sj_parse.proofs.scalars.split_string.Goals as goal

pub decode-requires-clause-none : goal.decode-requires-clause-none
decode-requires-clause-none c = λ k lt is.
    let plain = c.find_body-len.ensures.plain k lt in grind (arith, common_steps)

pub returns-in_err-text-clause-stops : goal.returns-in_err-text-clause-stops
returns-in_err-text-clause-stops c =
    let p = err_from_is_err_and c.from_residual.result c.from_residual.ensures.1 in
    let body : string_body (drop (c.args.skip + 1) c.args.rest.now) ≡ c.split_at_mut-body.result.0.now = grind (arith, common_steps) in
    rw (p.1, p.2) (string_stop-at c.args.place c.args.skip c.args.rest.now c.in_err-text.field-0.0 (ap (λ (bs : List ℕ). bad_escape (c.args.place + 1) bs) body ∙ c.in_err-text.ensures))
