-- Laws of the definitions: each line has one record, any bytes are read as a script in one way, the depth limit holds along a
-- script, no key is repeated along it where that is refused, a second script continues the first, a reload changes nothing,
-- the forms agree, no record holds a line feed, repeats that were dropped stay away, and writes and histories are taken back.
use Rattle.std.specs.Prelude.{◌≡◌, ◌≢◌, ℕ, ◌≤◌, Bool, true, false, ◌||◌, List, [], ◌∷◌, ◌++◌, length, take, Option, Some, None, Ok, ⊤}
use Rattle.std.specs.declared.alloc.AllocError.{AllocError}
use Rattle.std.specs.List.{AllByRecursion}
use Rattle.sj_base.specs.Tree.{Tree, Items, no_items, item, depth}
use Rattle.sj_base.specs.Keep.{IsKept}
use Rattle.sj_base.specs.Spelling.{longest, Document}
use Rattle.sj_base.specs.Text.{text}
use Rattle.sj_base.specs.declared.error.Error.{Error}
use Rattle.sj_parse.specs.Fault.{fault}
use Rattle.sj_scripts.specs.Command.{Step, insert, remove, push, pop, set_at, reload, reload_pp}
use Rattle.sj_documents.specs.Step.{Job, Keeping, from_start, from_write, RepeatRule, refuses_repeats, State, begun, reload_reply, replies, after, Rewrite, reply_of, insertion, removal, pushing, popping, setting, write_at}
use Rattle.sj_documents.specs.Inverse.{Change, drop_item, place_in, back, insertion_back, removal_back, popping_back, setting_back}
use Rattle.sj_base.specs.Path.{Part, at}
use Rattle.sj_tape.specs.Repeats.{Repetition, repeated}
use Rattle.sj_records.specs.Record.{IsRecord, record_of, repeat_record, refused_repeat, fault_record}
use Rattle.sj_scripts.specs.Script.{IsReadAs, IsAccepted}
use Rattle.sj_documents.specs.declared.inverse.Inverse.{Inverse}
use Rattle.sj_documents.specs.declared.inverse.Undo.{Undo}
use Rattle.sj_records.specs.History.{is_undo, CommandLeaves, may_run, StandFor, Applied}

-- exactly one x satisfies P
abbrev pub ExactlyOne : {A : Type 0} → (A → Type 0) → Type 0
ExactlyOne {A} P = (x : A) × P x × ((y : A) → P y → y ≡ x)

-- Each line has exactly one record under each job: script, limit, form and rule for repeated keys.
abbrev pub OneRecord : Type 0
OneRecord = (job : Job) (line : List ℕ) → ExactlyOne (IsRecord job line)

-- Any bytes are read as exactly one list of commands, or as exactly one refusal.
abbrev pub OneReading : Type 0
OneReading = (bytes : List ℕ) → ExactlyOne (IsReadAs bytes)

-- the state after the first n commands of a job, on a line's tree
abbrev pub state_at : Job → Tree → ℕ → State
state_at job t n = after job (begun job t) (take n job.script)

-- P holds of the tree of a state and of each base.
abbrev pub HoldsInState : (Tree → Type 0) → State → Type 0
HoldsInState P s = P s.tree × AllByRecursion P s.bases

-- Where the tree of a line is within the limit of levels, each tree and each base along the script is.
abbrev pub DepthStays : Type 0
DepthStays = (job : Job) (t : Tree) (n : ℕ) → depth t ≤ job.limit → HoldsInState (λ u. depth u ≤ job.limit) (state_at job t n)

abbrev pub is_write : Step → Bool
is_write (insert path k v) = true
is_write (remove path k) = true
is_write (push path v) = true
is_write (pop path) = true
is_write (set_at path v) = true
is_write _ = false

-- whether repeated keys have been dropped: from the start, or once there was a write command
abbrev pub has_dropped : Keeping → List Step → Bool
has_dropped from_start cs = true
has_dropped from_write [] = false
has_dropped from_write (c ∷ cs) = is_write c || has_dropped from_write cs

-- Along an accepted script no base repeats a key, and no tree does once repeated keys have been dropped.
abbrev pub BasesAreKept : Type 0
BasesAreKept = (job : Job) (t : Tree) (n : ℕ) → IsAccepted job.script → AllByRecursion IsKept (state_at job t n).bases

abbrev pub TreesAreKept : Type 0
TreesAreKept = (job : Job) (t : Tree) (n : ℕ) → IsAccepted job.script → has_dropped job.keeping (take n job.script) ≡ true → IsKept (state_at job t n).tree

-- Where repeated keys are refused and the tree of a line repeats none, no tree and no base along an accepted script repeats one.
abbrev pub NoneIsRepeated : Type 0
NoneIsRepeated = (job : Job) (t : Tree) (n : ℕ) → IsAccepted job.script → job.repeats ≡ refuses_repeats → refused_repeat job.repeats t ≡ None → HoldsInState (λ u. repeated u ≡ None) (state_at job t n)

abbrev pub job_with : List Step → ℕ → RepeatRule → Keeping → Job
job_with script limit rule keeping = record { script = script; limit = limit; keeping = keeping; repeats = rule }

-- Where the tree of a line repeats no key, its records under an accepted script are the same, however repeated keys are kept.
abbrev pub FormsAgree : Type 0
FormsAgree =
    (script : List Step) (limit : ℕ) (rule : RepeatRule) (a b : Keeping) (line bytes : List ℕ) → IsAccepted script → ((t : Tree) → Document line limit t → IsKept t)
    → IsRecord (job_with script limit rule a) line bytes → IsRecord (job_with script limit rule b) line bytes

-- Where repeated keys are refused, the records of any line under an accepted script are the same, however repeated keys are kept.
abbrev pub RefusingFormsAgree : Type 0
RefusingFormsAgree =
    (script : List Step) (limit : ℕ) (a b : Keeping) (line bytes : List ℕ) → IsAccepted script
    → IsRecord (job_with script limit refuses_repeats a) line bytes → IsRecord (job_with script limit refuses_repeats b) line bytes

-- No record under an accepted script holds a line feed.
abbrev pub NoLineFeed : Type 0
NoLineFeed = (job : Job) (line bytes : List ℕ) → IsAccepted job.script → IsRecord job line bytes → AllByRecursion (λ b. b ≢ 0x0a) bytes

-- the job with another script
abbrev pub with_script : Job → List Step → Job
with_script job cs = record { script = cs; limit = job.limit; keeping = job.keeping; repeats = job.repeats }

-- items, and others behind them
abbrev pub items_then : Items → Items → Items
items_then no_items us = us
items_then (item t ts) us = item t (items_then ts us)

abbrev pub is_reload : Step → Bool
is_reload reload = true
is_reload reload_pp = true
is_reload _ = false

-- A second script without `undo` on the text that the first comes to, as a line, gives what it gives behind the first, by the same rule
-- for repeated keys: the same replies and the same document, unless the first line is refused.
abbrev pub ScriptsContinue : Type 0
ScriptsContinue =
    (job : Job) (line : List ℕ) (t : Tree) (first second : List Step) → IsAccepted first → AllByRecursion (λ c. is_undo c ≡ false) second → Document line job.limit t → refused_repeat job.repeats t ≡ None →
    let s = after job (begun job t) first in
    let rest = replies job s second in
    let last = (after job s second).tree in
    length (text s.tree) ≤ longest
    → IsRecord (with_script job (first ++ second)) line (text (record_of (items_then (replies job (begun job t) first) rest) last))
    × IsRecord (with_script job second) (text s.tree) (text (record_of rest last))

-- With the reload c, whose text is `print`, between other commands, the record of a document has one reply more than without it.
-- The other replies and the document are the same. A record of a repeated key or of a fault stays as it is.
abbrev pub ChangesNothing : Step → (Tree → List ℕ) → Type 0
ChangesNothing c print =
    (job : Job) (line : List ℕ) (before behind : List Step) →
    ((t : Tree) → Document line job.limit t → refused_repeat job.repeats t ≡ None →
    let s = after job (begun job t) before in
    let first = replies job (begun job t) before in
    let rest = replies job s behind in
    let last = (after job s behind).tree in
    IsRecord (with_script job (before ++ behind)) line (text (record_of (items_then first rest) last))
    × IsRecord (with_script job (before ++ c ∷ behind)) line (text (record_of (items_then first (item (reload_reply (print s.tree)) rest)) last)))
    × ((t : Tree) (r : Repetition) → Document line job.limit t → refused_repeat job.repeats t ≡ Some r →
    IsRecord (with_script job (before ++ behind)) line (text (repeat_record r)) × IsRecord (with_script job (before ++ c ∷ behind)) line (text (repeat_record r)))
    × ((e : Error) → fault line job.limit ≡ Some e →
    IsRecord (with_script job (before ++ behind)) line (text (fault_record e)) × IsRecord (with_script job (before ++ c ∷ behind)) line (text (fault_record e)))

-- A write on a kept base that isn't refused replies what `found` says, and this change takes it back.
abbrev pub Undoes : List Part → Rewrite → (Tree → Option Tree → Change) → Type 0
Undoes path write inverse =
    (t reply u : Tree) → IsKept t → write_at t path write ≡ Ok (reply, u)
    → (part : Tree) × (found : Option Tree) × (at t path ≡ Some part) × (reply ≡ reply_of found) × (back path (inverse part found) u ≡ Some t)

abbrev pub InsertUndone : Type 0
InsertUndone = (path : List Part) (k : List ℕ) (v : Tree) (test : Bool) → Undoes path (insertion test k v) (λ part found. insertion_back k found)

abbrev pub RemoveUndone : Type 0
RemoveUndone = (path : List Part) (k : List ℕ) → Undoes path (removal k) (λ part found. removal_back (place_in part k) k found)

abbrev pub PushUndone : Type 0
PushUndone = (path : List Part) (v : Tree) (test : Bool) → Undoes path (pushing test v) (λ part found. drop_item)

abbrev pub PopUndone : Type 0
PopUndone = (path : List Part) → Undoes path popping (λ part found. popping_back found)

abbrev pub SetUndone : Type 0
SetUndone = (path : List Part) (v : Tree) (test : Bool) → Undoes path (setting test v) (λ part found. setting_back found)

-- the value that a command writes repeats no key
abbrev pub WritesKept : Step → Type 0
WritesKept (insert path k v) = IsKept v
WritesKept (push path v) = IsKept v
WritesKept (set_at path v) = IsKept v
WritesKept _ = ⊤

-- Where a document and its history stand for a state, they do so for the state after a command too, and the reply is that of `step`.
-- Where no write may be taken back, this holds of any command but `undo`.
abbrev pub HistoriesStand : Type 0
HistoriesStand =
    (how : Undo) (keeping : Keeping) (limit : ℕ) (t u : Tree) (history next : List Inverse) (old new : List ℕ) (c : Step) (s : State) → WritesKept c → may_run how c ≡ true
    → CommandLeaves {E = AllocError} how (Ok tt) keeping limit t u history next old new c → StandFor how keeping t history s → Applied how keeping limit s c old new u next
