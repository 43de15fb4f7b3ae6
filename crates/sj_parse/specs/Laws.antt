-- Laws of the definitions: which texts have a fault.
use Rattle.std.specs.Prelude.{◌≡◌, ℕ, ◌≤◌, ◌↔◌, List, length, None}
use Rattle.sj_base.specs.Tree.{Tree, IsValidTree, depth}
use Rattle.sj_base.specs.Spelling.{longest, Document}
use Rattle.sj_parse.specs.Fault.{fault}

-- A text has a fault exactly where it is no document.
abbrev pub FaultOrTree : Type 0
FaultOrTree = (line : List ℕ) (limit : ℕ) → (fault line limit ≡ None) ↔ ((t : Tree) × Document line limit t)

-- A printed text that isn't too long has no fault under a limit of levels that its tree stays within.
abbrev pub PrintsNoFault : (Tree → List ℕ) → Type 0
PrintsNoFault print = (t : Tree) (limit : ℕ) → IsValidTree t → depth t ≤ limit → length (print t) ≤ longest → fault (print t) limit ≡ None
