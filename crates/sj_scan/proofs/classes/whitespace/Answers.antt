use Rattle.std.proofs.Common.{◌%◌, true, eqb, slice_index, refl, eqb-true}
use Rattle.std.proofs.lemmas.Bool.{agree_below_at}
use Rattle.sj_scan.specs.declared.classes.TheConstants.{WHITESPACE}
use Rattle.sj_scan.specs.Positions.{is_whitespace}
use Rattle.sj_scan.proofs.Lanes.{block_itself, lanewise, equal, Marks-tabled}
use Rattle.sj_scan.proofs.classes.whitespace.Goals as goal

pub by_low_bits-requires : goal.by_low_bits-requires
by_low_bits-requires c = λ place within.
    eqb-true (slice_index WHITESPACE place) (slice_index WHITESPACE (place % 16)) (agree_below_at (λ k. eqb (slice_index WHITESPACE k) (slice_index WHITESPACE (k % 16))) (λ k. true) 64 place refl within)

pub returns : goal.returns
returns c = Marks-tabled is_whitespace (lanewise equal (block_itself c.args.block c.fits-block.0) c.by_low_bits.ensures) c.fits-block refl
