use Rattle.std.proofs.Common.{◌*◌, ◌%◌, ◌^◌, sym, subst, refl, bit_or}
use Rattle.sj_scan.specs.inside.Masks.{Marks}
use Rattle.sj_scan.proofs.Marks.{Marks-shifted}
use Rattle.sj_scan.proofs.masks.shifted.Goals as goal

pub returns : goal.returns
returns c = λ test carry marks. subst (λ carried. Marks (bit_or (c.args.mask * 2 % 2 ^ 64) carried) test) (sym carry) (Marks-shifted (test 0) test refl marks)
