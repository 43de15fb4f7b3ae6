-- What a call that may stop halfway leaves of a vector.
use Rattle.std.specs.Prelude.{◌≡◌, ℕ, List, ◌++◌, Result, Ok, Err}
use Rattle.std.specs.Io.{StartsWith}

-- The bytes were appended, or nothing that stood before was changed.
abbrev pub AppendsOrGrows : {E : Type 0} → Result Unit E → List ℕ → List ℕ → List ℕ → Type 0
AppendsOrGrows (Ok done) old new bytes = new ≡ old ++ bytes
AppendsOrGrows (Err e) old new bytes = StartsWith new old
