-- What keeps the elements of an array apart in its text.
use Rattle.std.specs.Prelude.{ℕ, Bool, true, false, List, [], ◌∷◌}

-- what stands before an element that is the first or another
abbrev pub separator : Bool → List ℕ
separator true = []
separator false = 0x2c ∷ []
