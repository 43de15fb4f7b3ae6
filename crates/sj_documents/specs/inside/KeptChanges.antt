-- Changes whose values repeat no key.
use Rattle.std.specs.Prelude.{◌≡◌, Some}
use Rattle.sj_base.specs.Keep.{IsKept}
use Rattle.sj_base.specs.Tree.{Tree}
use Rattle.sj_documents.specs.Inverse.{Change, found_of}

-- The value of a change is kept.
abbrev pub IsKeptChange : Change → Type 0
IsKeptChange change = (t : Tree) → found_of change ≡ Some t → IsKept t
