use Rattle.std.specs.Prelude.{nat_lt}
use Rattle.sj_scan.proofs.Lanes.{block_itself, splat, lanewise, Marks-lanes, top-cond}
use Rattle.sj_scan.proofs.classes.below.Goals as goal

pub returns : goal.returns
returns c =
    let block = c.args.block in
    Marks-lanes (λ byte. nat_lt byte c.args.byte) (lanewise _ (block_itself block c.fits-block.0) (splat block c.args.byte)) c.fits-block (λ byte within. top-cond (nat_lt byte c.args.byte))
