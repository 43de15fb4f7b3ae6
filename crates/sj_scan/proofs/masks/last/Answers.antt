use Rattle.sj_scan.proofs.Words.{first_if-last}
use Rattle.sj_scan.proofs.masks.last.Goals as goal

pub returns : goal.returns
returns c = first_if-last c.args.mask c.ranges.mask.fits
