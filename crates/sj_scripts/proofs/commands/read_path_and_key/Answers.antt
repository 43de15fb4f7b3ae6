use Rattle.std.proofs.lemmas.Result.{err_from_is_err_and}
use Rattle.sj_scripts.proofs.ScriptSteps.{key_path_fault, key_fault, key_read}
use Rattle.sj_scripts.proofs.commands.read_path_and_key.Goals as goal

pub returns-in_err-path : goal.returns-in_err-path
returns-in_err-path c =
    let p = err_from_is_err_and c.from_residual.result c.from_residual.ensures.1 in
    rw (p.1, p.2) (key_path_fault c.args.arguments.now c.in-Some.front.now c.in-Some.key.now c.in-Some.ensures.cases.0 _ c.in_err-path.ensures)

pub returns-in_err-read_key : goal.returns-in_err-read_key
returns-in_err-read_key c =
    let p = err_from_is_err_and c.from_residual-in_err-read_key.result c.from_residual-in_err-read_key.ensures.1 in
    rw (p.1, p.2) (key_fault c.args.arguments.now c.in-Some.front.now c.in-Some.key.now c.in-Some.ensures.cases.0 _ _ c.in_ok-path.ensures c.in_err-read_key.ensures)

pub returns : goal.returns
returns c = key_read c.args.arguments.now c.in-Some.front.now c.in-Some.key.now c.in-Some.ensures.cases.0 _ _ c.in_ok-path.ensures c.in_ok-read_key.ensures
