use Rattle.std.proofs.Common.{List, ℕ, [], ◌++◌, flat_map, ap}
use Rattle.std.proofs.lemmas.Result.{err_from_is_err_and}
use Rattle.sj_base.specs.Text.{escaped}
use Rattle.sj_base.proofs.Blocks.{run_first, none_left}
use Rattle.sj_base.proofs.Towards.{same_left, step, fault}
use Rattle.sj_base.proofs.put.print_runs.Goals as goal

pub returns-in_err-put : goal.returns-in_err-put
returns-in_err-put g c =
    let l = g.met.O.Output.laws in
    let run = c.split_at.result.0.now in
    let behind = c.split_at.result.1.now in
    let first = run_first c.loop-byte.rest.now run behind c.plain_len.result c.plain_len.ensures.within c.plain_len.ensures.plain c.split_at.ensures.front c.split_at.ensures.back in
    rw (err_from_is_err_and c.from_residual.result c.from_residual.ensures.1).1 (fault l run (flat_map escaped behind) (same_left (run ++ flat_map escaped behind) c.loop-byte.invariant first) c.in_err-put.ensures)

pub returns-in-None : goal.returns-in-None
returns-in-None g c =
    let l = g.met.O.Output.laws in
    let run = c.split_at.result.0.now in
    let behind = c.split_at.result.1.now in
    let first = run_first c.loop-byte.rest.now run behind c.plain_len.result c.plain_len.ensures.within c.plain_len.ensures.plain c.split_at.ensures.front c.split_at.ensures.back in
    let after = step l run (flat_map escaped behind) (same_left (run ++ flat_map escaped behind) c.loop-byte.invariant first) c.in_ok-put.ensures in
    (same_left [] after (none_left behind c.in-None.ensures.cases)).appended c.put.new.self (l.none c.put.new.self)

pub returns-in_err-print_escape-in-Some : goal.returns-in_err-print_escape-in-Some
returns-in_err-print_escape-in-Some g c =
    let l = g.met.O.Output.laws in
    let run = c.split_at.result.0.now in
    let behind = c.split_at.result.1.now in
    let byte = c.in-Some.byte.now in
    let others = flat_map escaped c.in-Some.others.now in
    let first = run_first c.loop-byte.rest.now run behind c.plain_len.result c.plain_len.ensures.within c.plain_len.ensures.plain c.split_at.ensures.front c.split_at.ensures.back in
    let after = step l run (flat_map escaped behind) (same_left (run ++ flat_map escaped behind) c.loop-byte.invariant first) c.in_ok-put.ensures in
    let next = same_left (escaped byte ++ others) after (ap (λ (xs : List ℕ). flat_map escaped xs) c.in-Some.ensures.cases.0) in
    rw (err_from_is_err_and c.from_residual-in_err-print_escape-in-Some.result c.from_residual-in_err-print_escape-in-Some.ensures.1).1 (fault l (escaped byte) others next c.in_err-print_escape-in-Some.ensures)

pub loop-byte-preserved : goal.loop-byte-preserved
loop-byte-preserved g c =
    let l = g.met.O.Output.laws in
    let run = c.split_at.result.0.now in
    let behind = c.split_at.result.1.now in
    let byte = c.in-Some.byte.now in
    let others = flat_map escaped c.in-Some.others.now in
    let first = run_first c.loop-byte.rest.now run behind c.plain_len.result c.plain_len.ensures.within c.plain_len.ensures.plain c.split_at.ensures.front c.split_at.ensures.back in
    let after = step l run (flat_map escaped behind) (same_left (run ++ flat_map escaped behind) c.loop-byte.invariant first) c.in_ok-put.ensures in
    let next = same_left (escaped byte ++ others) after (ap (λ (xs : List ℕ). flat_map escaped xs) c.in-Some.ensures.cases.0) in
    step l (escaped byte) others next c.in_ok-print_escape-in-Some.ensures
