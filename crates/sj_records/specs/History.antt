-- The history of a document: what takes its writes back, and the trees that come back then.
use Rattle.std.specs.Prelude.{◌≡◌, ◌⊎◌, ℕ, Bool, true, false, not, if◌then◌else◌, List, [], ◌∷◌, ◌++◌, map, reverse, Option, Some, None, option_map, option_and_then, Result, Ok, Err, ⊤}
use Rattle.std.specs.List.{AllByRecursion, list_any}
use Rattle.sj_base.specs.Tree.{Tree, boolean}
use Rattle.sj_base.specs.Keep.{keep, IsKept}
use Rattle.sj_base.specs.Path.{Part}
use Rattle.sj_base.specs.Text.{text}
use Rattle.sj_scripts.specs.Command.{Step, insert, remove, push, pop, set_at, undo}
use Rattle.sj_documents.specs.Inverse.{Change, drop_item, place_at, back, insertion_back, removal_back, popping_back, setting_back}
use Rattle.sj_documents.specs.Inverses.{change_view, Settles, TakesBack}
use Rattle.sj_scripts.specs.Script.{path_view}
use Rattle.sj_documents.specs.Step.{Job, Keeping, runs_on_repeats, State, Rewrite, start, base, fits, fits_below, insertion, removal, pushing, popping, setting, step}
use Rattle.sj_documents.specs.declared.inverse.Inverse.{Inverse}
use Rattle.sj_documents.specs.declared.inverse.Undo.{Undo}
use Rattle.sj_documents.specs.declared.inverse.Undo.TheVariants.{Possible, Impossible}

abbrev pub is_undo : Step → Bool
is_undo undo = true
is_undo _ = false

-- ---- what a command leaves of a document and its history, whose newest inverse stands last

abbrev pub added : List Inverse → Option Inverse → List Inverse
added history None = history
added history (Some inverse) = history ++ inverse ∷ []

-- A write adds what it hands out.
abbrev pub WriteLeaves : {E : Type 0} → Undo → Result Unit E → Keeping → Tree → Tree → List Inverse → List Inverse → List ℕ → List ℕ → List Part → Rewrite → (Option Tree → Change) → Type 0
WriteLeaves {E} how (Ok done) keeping t u history after old new path change inversion =
    (inverse : Option Inverse) × Settles {E = E} how (Ok inverse) old new keeping t u path change inversion × (after ≡ added history inverse)
WriteLeaves how (Err e) keeping t u history after old new path change inversion = Settles how (Err e) old new keeping t u path change inversion

-- `undo` takes the newest inverse off, and replies whether its change was made; it replies `false` if there is none.
abbrev pub UndoLeaves : {E : Type 0} → Result Unit E → Keeping → Tree → Tree → List Inverse → List Inverse → List ℕ → List ℕ → Type 0
UndoLeaves {E} (Ok done) keeping t u history after old new =
    ((history ≡ []) × (after ≡ []) × (u ≡ t) × (new ≡ old ++ text (boolean false)))
    ⊎ ((inverse : Inverse) × (is_made : Bool) × (history ≡ after ++ inverse ∷ [])
    × TakesBack {E = E} (Ok is_made) keeping t u (path_view inverse.path.items) (change_view inverse.change) × (new ≡ old ++ text (boolean is_made)))
UndoLeaves (Err e) keeping t u history after old new =
    (new ≡ old)
    × ((u ≡ t)
    ⊎ ((inverse : Inverse) × (front : List Inverse) × (history ≡ front ++ inverse ∷ []) × TakesBack (Err e) keeping t u (path_view inverse.path.items) (change_view inverse.change)))

-- what commands are run under, without their script; `step` doesn't look at the rule for repeated keys
abbrev pub bare : Keeping → ℕ → Job
bare keeping limit = record { script = []; limit = limit; keeping = keeping; repeats = runs_on_repeats }

-- Any other command leaves both.
abbrev pub ReadLeaves : {E : Type 0} → Result Unit E → Keeping → ℕ → Tree → Tree → List Inverse → List Inverse → List ℕ → List ℕ → Step → Type 0
ReadLeaves (Ok done) keeping limit t u history after old new c =
    (new ≡ old ++ text (step (bare keeping limit) (record { tree = t; bases = [] }) c).0) × (u ≡ t) × (after ≡ history)
ReadLeaves (Err e) keeping limit t u history after old new c = (new ≡ old) × (u ≡ t)

abbrev pub CommandLeaves : {E : Type 0} → Undo → Result Unit E → Keeping → ℕ → Tree → Tree → List Inverse → List Inverse → List ℕ → List ℕ → Step → Type 0
CommandLeaves how r keeping limit t u history after old new (insert path k v) =
    WriteLeaves how r keeping t u history after old new path (insertion (fits_below path v limit) k v) (insertion_back k)
CommandLeaves how r keeping limit t u history after old new (remove path k) =
    WriteLeaves how r keeping t u history after old new path (removal k) (removal_back (place_at (base t keeping) path k) k)
CommandLeaves how r keeping limit t u history after old new (push path v) =
    WriteLeaves how r keeping t u history after old new path (pushing (fits_below path v limit) v) (λ found. drop_item)
CommandLeaves how r keeping limit t u history after old new (pop path) = WriteLeaves how r keeping t u history after old new path popping popping_back
CommandLeaves how r keeping limit t u history after old new (set_at path v) =
    WriteLeaves how r keeping t u history after old new path (setting (fits path v limit) v) setting_back
CommandLeaves how r keeping limit t u history after old new undo = UndoLeaves r keeping t u history after old new
CommandLeaves how r keeping limit t u history after old new c = ReadLeaves r keeping limit t u history after old new c

-- ---- the trees that a history brings back

abbrev pub inverse_view : Inverse → List Part × Change
inverse_view inverse = (path_view inverse.path.items, change_view inverse.change)

-- those of inverses, one after the other, from the tree t on; none if a change can't be made
abbrev pub bases_from : List (List Part × Change) → Tree → Option (List Tree)
bases_from [] t = Some []
bases_from (i ∷ is) t = option_and_then (λ b. option_map (λ bs. b ∷ bs) (bases_from is b)) (back i.0 i.1 t)

-- those of a history, the newest inverse first
abbrev pub bases : List Inverse → Tree → Option (List Tree)
bases history t = bases_from (reverse (map inverse_view history)) (keep t)

-- A history brings back these bases. Where no write may be taken back, nothing is asked of it.
abbrev pub BringsBack : Undo → List Inverse → Tree → List Tree → Type 0
BringsBack Possible history t bs = bases history t ≡ Some bs
BringsBack Impossible history t bs = ⊤

-- The tree t of a document and its history stand for a state. The bases repeat no key, and nor does t, if the document keeps the
-- first member of each key from its start. Where no write may be taken back, the history may be any.
abbrev pub StandFor : Undo → Keeping → Tree → List Inverse → State → Type 0
StandFor how keeping t history s = (s.tree ≡ t) × (start t keeping ≡ t) × AllByRecursion IsKept s.bases × BringsBack how history t s.bases

-- whether a command may run: any where writes may be taken back, and elsewhere any but `undo`
abbrev pub may_run : Undo → Step → Bool
may_run Possible c = true
may_run Impossible c = not (is_undo c)

-- `Possible` if one of the commands is `undo`, and else `Impossible`
abbrev pub undo_for : List Step → Undo
undo_for cs = if list_any is_undo cs then Possible else Impossible

-- The reply to a command in the state s was appended, and the tree and the history stand for the state after it.
abbrev pub Applied : Undo → Keeping → ℕ → State → Step → List ℕ → List ℕ → Tree → List Inverse → Type 0
Applied how keeping limit s c old new u history =
    let n = step (bare keeping limit) s c in
    (new ≡ old ++ text n.0) × StandFor how keeping u history n.1
