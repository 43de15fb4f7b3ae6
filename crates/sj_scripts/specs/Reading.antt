-- What a text is read as.
use Rattle.std.specs.Prelude.{◌≡◌, ◌⊎◌, ℕ, List, Some}
use Rattle.sj_base.specs.Tree.{Tree}
use Rattle.sj_base.specs.Spelling.{Document}
use Rattle.sj_base.specs.declared.error.Error.{Error}
use Rattle.sj_parse.specs.Fault.{fault}

-- What comes of a text under a limit of levels: f of its tree, where it is a document, or g of its first fault. Exactly
-- one of the two is there (the law `fault_or_tree` of sj_parse).
abbrev pub ComesOf : {A : Type 0} → (Tree → A) → (Error → A) → List ℕ → ℕ → A → Type 0
ComesOf f g bytes limit x =
    ((t : Tree) × Document bytes limit t × (x ≡ f t))
    ⊎ ((e : Error) × (fault bytes limit ≡ Some e) × (x ≡ g e))
