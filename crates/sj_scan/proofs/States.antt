-- The state of a scan behind one more byte.
use Rattle.std.proofs.Common.{◌≡◌, ℕ, suc, Bool, true, false, not, ◌&&◌, refl}
use Rattle.std.specs.Prelude.{if◌then◌else◌}
use mathlib.Core.Bool.{beq}
use Rattle.sj_scan.specs.Positions.{is_odd}

-- the run of backslashes
pub is_odd-run : (b : Bool) (n : ℕ) → (b && not (is_odd n)) ≡ is_odd (if b then suc n else 0)
is_odd-run true n = refl
is_odd-run false n = refl

differ-false : (b : Bool) → not (beq b false) ≡ b
differ-false true = refl
differ-false false = refl

differ-true : (b : Bool) → not (beq b true) ≡ not b
differ-true true = refl
differ-true false = refl

-- the real quotes
pub is_odd-quotes : (b : Bool) (n : ℕ) → not (beq (is_odd n) b) ≡ is_odd (if b then suc n else n)
is_odd-quotes true n = differ-true (is_odd n)
is_odd-quotes false n = differ-false (is_odd n)
