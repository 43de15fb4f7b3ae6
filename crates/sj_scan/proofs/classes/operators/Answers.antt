-- The look-up alone also finds two control characters.
use Rattle.std.proofs.Common.{ℕ, ◌%◌, true, not, ◌&&◌, eqb, get_or, slice_index, nat_lt, refl, bit_or, eqb-true, arith, w8, Fits}
use Rattle.std.proofs.lemmas.Bool.{agree_below_at}
use Rattle.std.proofs.lemmas.Simd.{Each1-get_or}
use lib.Lanes.{top}
use Rattle.sj_scan.specs.declared.classes.TheConstants.{OPERATORS}
use Rattle.sj_scan.specs.Positions.{is_operator}
use Rattle.sj_scan.specs.inside.Lanes.{low_entry}
use Rattle.sj_scan.proofs.Lanes.{block_itself, splat, lanewise, equal, Marks-lanes}
use Rattle.sj_scan.proofs.Marks.{Marks-agree, Marks-and, Marks-not}
use Rattle.sj_scan.proofs.classes.operators.Goals as goal

pub by_low_bits-requires : goal.by_low_bits-requires
by_low_bits-requires c = λ place within.
    eqb-true (slice_index OPERATORS place) (slice_index OPERATORS (place % 16)) (agree_below_at (λ k. eqb (slice_index OPERATORS k) (slice_index OPERATORS (k % 16))) (λ k. true) 64 place refl within)

pub returns : goal.returns
returns c =
    let block = c.args.block in
    let found = λ (byte : ℕ). top 7 (equal (bit_or byte 0x20) (low_entry OPERATORS byte)) in
    let curly = lanewise bit_or (block_itself block c.fits-block.0) (splat block 0x20) in
    Marks-agree _ _
    (λ place within.
    let long = c.fits-block.0 in
    let byte : Fits w8 (get_or block place 0) = Each1-get_or (Fits w8) block place 0 (omega arith) c.fits-block.1 in
    agree_below_at (λ n. found n && not (nat_lt n 0x20)) is_operator 256 (slice_index block place) refl byte.fits)
    (Marks-and (Marks-lanes found (lanewise equal curly c.by_low_bits.ensures) c.fits-block (λ byte within. refl)) (Marks-not c.requires))
