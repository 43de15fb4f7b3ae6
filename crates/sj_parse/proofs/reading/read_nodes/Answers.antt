-- Behind an error no nodes count, and the positions are those that the scan left.
use Rattle.std.proofs.Common.{inl, inr}
use Rattle.std.proofs.lemmas.Result.{err_from_is_err_and, IfOk-from_err}
use Rattle.sj_parse.specs.Answers.{buffer_limit}
use Rattle.sj_parse.proofs.reading.read_nodes.Goals as goal

pub returns-in_err-scan-clause-answers : goal.returns-in_err-scan-clause-answers
returns-in_err-scan-clause-answers g c =
    let p = err_from_is_err_and c.from_residual.result c.from_residual.ensures.1 in
    rw (p.1, p.2) (c.in_err-scan.ensures.err (buffer_limit c.args.buffers.now))

pub returns-in_err-scan-clause-scanned : goal.returns-in_err-scan-clause-scanned
returns-in_err-scan-clause-scanned g c =
    let p = err_from_is_err_and c.from_residual.result c.from_residual.ensures.1 in
    rw (p.1, p.2) c.in_err-scan.ensures.scanned

pub returns-in_err-scan-clause-bound : goal.returns-in_err-scan-clause-bound
returns-in_err-scan-clause-bound g c = IfOk-from_err _ _ c.from_residual.ensures.0

pub returns-in_err-make_room-clause-answers : goal.returns-in_err-make_room-clause-answers
returns-in_err-make_room-clause-answers g c =
    let p = err_from_is_err_and c.from_residual-in_err-make_room.result c.from_residual-in_err-make_room.ensures.1 in
    rw (p.1, p.2) (inr c.in_err-make_room.ensures.err)

pub returns-in_err-make_room-clause-scanned : goal.returns-in_err-make_room-clause-scanned
returns-in_err-make_room-clause-scanned g c = λ short.
    let p = err_from_is_err_and c.from_residual-in_err-make_room.result c.from_residual-in_err-make_room.ensures.1 in
    rw (p.1, p.2) (inl (c.in_ok-scan.ensures.scanned short))

pub returns-in_err-make_room-clause-bound : goal.returns-in_err-make_room-clause-bound
returns-in_err-make_room-clause-bound g c = IfOk-from_err _ _ c.from_residual-in_err-make_room.ensures.0

pub returns-in_err-descend-clause-scanned : goal.returns-in_err-descend-clause-scanned
returns-in_err-descend-clause-scanned g c = λ short.
    let p = err_from_is_err_and c.from_residual-in_err-descend.result c.from_residual-in_err-descend.ensures.1 in
    rw p.1 (inl (c.in_ok-scan.ensures.scanned short))

pub returns-in_err-descend-clause-bound : goal.returns-in_err-descend-clause-bound
returns-in_err-descend-clause-bound g c = IfOk-from_err _ _ c.from_residual-in_err-descend.ensures.0
