-- What a call answers that reads a document from bytes.
use Rattle.std.specs.Prelude.{◌≡◌, ℕ, List, Result, Ok, Err}
use Rattle.sj_base.specs.Tree.{Tree}
use Rattle.sj_base.specs.Spelling.{Document}
use Rattle.sj_base.specs.Keep.{keep}
use Rattle.sj_base.specs.declared.error.Error.{Error}
use Rattle.sj_parse.specs.Fault.{fault}
use Rattle.sj_parse.specs.Answers.{IsErrorOf}

-- A call on these bytes, under that limit of levels, answers what has the tree that the bytes spell, with the first member
-- of each key alone, or an error: the first fault, or lack of memory.
abbrev pub AnswersKept : {X : Type 0} → (X → Tree) → List ℕ → ℕ → Result X Error → Type 0
AnswersKept tree bytes limit (Ok x) = (t : Tree) × Document bytes limit t × (tree x ≡ keep t)
AnswersKept tree bytes limit (Err e) = IsErrorOf (fault bytes limit) e
