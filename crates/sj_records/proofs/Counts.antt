-- Reads after which a run goes on.
use Rattle.std.proofs.Common.{◌≡◌, ℕ, ◌<◌, false, eqb, List, ap, ◌∙◌, arith}
use Rattle.sj_base.specs.Calls.{Calls, CountsOk, one_interrupted}
use Rattle.sj_records.specs.Run.{GoesOn}

-- one that gave something
pub GoesOn-some : (old new : Calls) (buf : List ℕ) (n : ℕ) → 0 < n → CountsOk old new buf n → GoesOn old new
GoesOn-some old new buf n some h =
    let busy : eqb n 0 ≡ false = grind arith in
    let is = rw busy at h in
    (ap (λ (c : Calls). c.failed) is, ap (λ (c : Calls). c.empty) is)

-- one that was interrupted
pub GoesOn-interrupted : (old new : Calls) → new ≡ one_interrupted old → GoesOn old new
GoesOn-interrupted old new is = (ap (λ (c : Calls). c.failed) is, ap (λ (c : Calls). c.empty) is)

-- several
pub GoesOn-then : (a b c : Calls) → GoesOn a b → GoesOn b c → GoesOn a c
GoesOn-then a b c h k = (k.0 ∙ h.0, k.1 ∙ h.1)
