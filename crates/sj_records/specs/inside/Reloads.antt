-- What stands of a record where the commands of a script have been run up to a reload, or to the end.
use Rattle.std.specs.Prelude.{◌≡◌, ◌⊎◌, ℕ, ◌<◌, ◌≤◌, Bool, false, List, [], ◌∷◌, ◌++◌, length, Option, Some, None, codes}
use Rattle.sj_base.specs.Spelling.{longest}
use Rattle.sj_base.specs.Text.{text, pretty}
use Rattle.sj_base.specs.Tree.{Tree, IsValidTree, depth}
use Rattle.sj_scripts.specs.declared.script.Command.{Command}
use Rattle.sj_scripts.specs.Command.{Step}
use Rattle.sj_documents.specs.Step.{Job, State, replies, after}
use Rattle.sj_scripts.specs.Script.{commands_view}
use Rattle.sj_documents.specs.declared.inverse.Inverse.{Inverse}
use Rattle.sj_documents.specs.declared.inverse.Undo.{Undo}
use Rattle.sj_documents.specs.inside.Documents.{items_left}
use Rattle.sj_records.specs.History.{StandFor}
use Rattle.sj_records.specs.Texts.{reloads}

-- the text of a record from the replies to these commands on, which run from the state s. `is_first`: their first reply is the
-- first of the record
abbrev pub record_from : Job → State → List Step → Bool → List ℕ
record_from job s cs is_first = items_left is_first (replies job s cs) ++ (codes "],\"document\":" ++ (text (after job s cs).tree ++ 0x7d ∷ []))

-- a tree whose texts can be read under the limit of levels
abbrev pub IsReadable : ℕ → Tree → Type 0
IsReadable limit t = IsValidTree t × (depth t ≤ limit)

-- the compact text of the tree or the indented one, which isn't too long
abbrev pub IsPrinted : Tree → List ℕ → Type 0
IsPrinted t bytes = ((bytes ≡ text t) ⊎ (bytes ≡ pretty t)) × (length bytes ≤ longest)

-- Some of the commands cs were run from the state s on, and `left` are left. The replies were appended, and the tree that was
-- reached was printed. It stands for the state, with the history. The reloads among them read these texts; the printed one is
-- read next. (That fewer are left shows that a loop ends.)
pub record Reloads (how : Undo) (job : Job) (s : State) (cs left : List Step) (is_first : Bool) (history : List Inverse) (printed old new : List ℕ) (texts : List (List ℕ)) : Type 0 where
  pub ran : List Step
  pub parts : cs ≡ ran ++ left
  pub fewer : length left < length cs
  pub is_printed : IsPrinted (after job s ran).tree printed
  pub stands : StandFor how job.keeping (after job s ran).tree history (after job s ran)
  pub written : new ++ record_from job (after job s ran) left false ≡ old ++ record_from job s cs is_first
  pub read : reloads job s cs ≡ texts ++ printed ∷ reloads job (after job s ran) left

-- What was run, by the commands that are left: all of them, and the record was ended; or some of them.
abbrev pub Runs : Undo → Job → State → List Step → Bool → Option (List Command) → List Inverse → List ℕ → List ℕ → List ℕ → List (List ℕ) → Type 0
Runs how job s cs is_first None history printed old new texts = (new ≡ old ++ record_from job s cs is_first) × (reloads job s cs ≡ texts)
Runs how job s cs is_first (Some left) history printed old new texts = Reloads how job s cs (commands_view left) is_first history printed old new texts
