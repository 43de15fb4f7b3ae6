use Rattle.sj_scan.proofs.Lookup.{SwzOk-indices, Computes-low_entry}
use Rattle.sj_scan.proofs.classes.by_low_bits.Goals as goal

pub swizzle : goal.swizzle
swizzle c = SwzOk-indices c.args.block c.fits-block

pub returns : goal.returns
returns c = Computes-low_entry c.args.block c.fits-block c.args.table c.requires
