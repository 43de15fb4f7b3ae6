use Rattle.std.proofs.Common.{◌++◌, ap₂}
use Rattle.std.proofs.lemmas.List.{drop-replicate}
use Rattle.sj_scan.proofs.block_scan.filled_up.Goals as goal

pub returns : goal.returns
returns c = ap₂ (λ xs ys. xs ++ ys) c.copy_from_slice.ensures.after (drop-replicate _ _ _)
