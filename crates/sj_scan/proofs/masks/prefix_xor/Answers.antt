use Rattle.sj_scan.proofs.Prefix.{Marks-prefix}
use Rattle.sj_scan.proofs.masks.prefix_xor.Goals as goal

pub returns : goal.returns
returns c = Marks-prefix c.args.mask c.ranges.mask.fits
