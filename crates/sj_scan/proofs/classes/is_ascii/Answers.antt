use Rattle.std.proofs.Common.{inl, inr, true, slice_index, sym, ap, ◌∙◌, arith}
use Rattle.std.proofs.lemmas.Bool.{cases_lt, ltb-true, eqb-true}
use Rattle.std.proofs.lemmas.List.{get_or_past}
use Rattle.sj_scan.specs.inside.Masks.{is_set}
use Rattle.sj_scan.proofs.Words.{is_set-all_if}
use Rattle.sj_scan.proofs.classes.is_ascii.Goals as goal

pub returns : goal.returns
returns c = λ full place.
    elim (cases_lt place 64) [
      | inl within ↦ ltb-true (slice_index c.args.block place) 128 (sym (c.below.ensures.bits place within) ∙ ap (λ n. is_set n place) (eqb-true c.below.result 18446744073709551615 full) ∙ is_set-all_if true place within)
      | inr past ↦ let long = c.fits-block.0 in let none = get_or_past c.args.block place 0 (omega arith) in omega arith
    ]
