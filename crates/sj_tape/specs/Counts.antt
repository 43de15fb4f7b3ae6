-- How many nodes a look-up reads, by the places that `Reads` of `sj_base` lists.
use Rattle.std.specs.Prelude.{◌≡◌, ◌<◌, ◌≤◌, ⊤, ℕ, suc, List, [], ◌∷◌, ◌++◌, length}

-- the places ascend from `start` on, none of them twice, and end before `end`
abbrev pub AscendWithin : ℕ → ℕ → List ℕ → Type 0
AscendWithin start end [] = ⊤
AscendWithin start end (place ∷ places) = (start ≤ place) × (place < end) × AscendWithin (suc place) end places

-- at most n of the first `len` nodes were read after the old places, none of them twice
abbrev pub ReadsAtMost : ℕ → ℕ → List ℕ → List ℕ → Type 0
ReadsAtMost n len old new = (places : List ℕ) × (new ≡ old ++ places) × (length places ≤ n) × AscendWithin 0 len places
