-- The counts after one call.
use Rattle.std.proofs.Common.{◌≡◌, ℕ, ◌<◌, false, eqb, List, ap, ◌∙◌, arith}
use Rattle.sj_base.specs.Calls.{Calls, CountsOk, unsuccessful}

-- A call that moved a byte isn't counted as unsuccessful.
pub unsuccessful-some : (old new : Calls) (buf : List ℕ) (n : ℕ) → 0 < n → CountsOk old new buf n → unsuccessful new ≡ unsuccessful old
unsuccessful-some old new buf n some h =
    let busy : eqb n 0 ≡ false = grind arith in
    ap unsuccessful (rw busy at h) ∙ omega arith
