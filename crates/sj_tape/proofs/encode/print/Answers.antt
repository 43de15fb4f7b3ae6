use Rattle.std.proofs.Common.{◌<◌, ◌^◌, length, arith}
use Rattle.sj_tape.proofs.Tapes.{tree_fits}
use Rattle.sj_tape.proofs.encode.print.Goals as goal

pub print_value-requires : goal.print_value-requires
print_value-requires g c =
    let v = c.args.value in
    let long : length v.nodes.now < 2 ^ 64 = c.well_formed.0.1.1.0.0.1.0 in
    let fits = tree_fits v.nodes.now (2 ^ 64) v.listed long (omega arith) in
    omega (arith, fits, c.requires)
