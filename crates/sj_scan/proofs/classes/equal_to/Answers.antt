use Rattle.std.proofs.Common.{◌==◌}
use Rattle.sj_scan.proofs.Lanes.{block_itself, splat, lanewise, Marks-lanes, top-cond}
use Rattle.sj_scan.proofs.classes.equal_to.Goals as goal

pub returns : goal.returns
returns c =
    let block = c.args.block in
    Marks-lanes (λ byte. byte == c.args.byte) (lanewise _ (block_itself block c.fits-block.0) (splat block c.args.byte)) c.fits-block (λ byte within. top-cond (byte == c.args.byte))
