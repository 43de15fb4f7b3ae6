-- Bytes that are printed as they are.
use Rattle.std.specs.Prelude.{◌≡◌, ℕ, ◌≤◌, ◌<◌, List, [], ◌∷◌}
use Rattle.std.proofs.Common.{get_or}
use Rattle.sj_base.specs.Text.{escaped}

-- no byte from the first place up to the second needs an escape
abbrev pub IsPlain : List ℕ → ℕ → ℕ → Type 0
IsPlain text from to = (k : ℕ) → from ≤ k → k < to → escaped (get_or text k 0) ≡ get_or text k 0 ∷ []
