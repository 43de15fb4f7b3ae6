-- How often stage two reads each position.
use Rattle.std.specs.Prelude.{◌≡◌, ℕ, ◌≤◌, List, ◌++◌}
use Rattle.std.specs.List.{range_with_len}

-- A call reads the first places of so many, as many as it comes to, each once: 0, 1, 2 and so on. The lists are the places read before and behind it.
abbrev pub ReadsEachOnce : ℕ → List ℕ → List ℕ → Type 0
ReadsEachOnce len old new = (n : ℕ) × (n ≤ len) × (new ≡ old ++ range_with_len 0 n)

-- It reads them all.
abbrev pub ReadsAll : ℕ → List ℕ → List ℕ → Type 0
ReadsAll len old new = new ≡ old ++ range_with_len 0 len
