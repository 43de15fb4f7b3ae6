-- The figures of some times.
use Rattle.std.specs.Prelude.{◌≡◌, ℕ, ◌≤◌, ◌/◌, List, length, slice_index}
use Rattle.std.specs.List.{All, Contains}
use Rattle.std.specs.List.Sorted.{IsPermutation, IsNonDecreasing}

-- one of the times, and no time is less
abbrev pub IsLeast : ℕ → List ℕ → Type 0
IsLeast least times = Contains times least × All (λ time. least ≤ time) times

-- in the middle of the times in rising order, or just behind it
abbrev pub IsMedian : ℕ → List ℕ → Type 0
IsMedian median times = (sorted : List ℕ) × IsPermutation times sorted × IsNonDecreasing sorted × (slice_index sorted (length sorted / 2) ≡ median)
