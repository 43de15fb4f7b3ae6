-- What a run has read and written when it ends, and which of its calls failed.
use Rattle.std.specs.Prelude.{◌≡◌, ℕ, ◌+◌, List, ◌++◌, take, Option, Result, Ok, Err}
use Rattle.std.specs.Io.KnownBytes.{Consumes, Appends}
use Rattle.sj_base.specs.Calls.{Calls, unsuccessful}
use Rattle.sj_records.specs.declared.run_error.RunError.{RunError}
use Rattle.sj_records.specs.declared.run_error.RunError.TheVariants.{Memory, Write, Read, TooManyReads}
use Rattle.sj_documents.specs.Step.{Job}
use Rattle.sj_records.specs.Lines.{ended}
use Rattle.sj_records.specs.Record.{IsOutput, AreRecords}

-- Bytes were read and bytes were written, and P holds of the two.
abbrev pub Transfers : Option (List ℕ) → Option (List ℕ) → Option (List ℕ) → Option (List ℕ) → (List ℕ → List ℕ → Type 0) → Type 0
Transfers unread_old unread_new held_old held_new P =
    (input output : List ℕ) × Consumes unread_old unread_new input × Appends held_old held_new output × P input output

-- the records of the lines that a line feed ended
abbrev pub RecordsOfEnded : Job → List ℕ → List ℕ → Type 0
RecordsOfEnded job input output = AreRecords job (ended input) output

-- those of the first k of these lines, for some k
abbrev pub RecordsOfSome : Job → List ℕ → List ℕ → Type 0
RecordsOfSome job input output = (k : ℕ) × AreRecords job (take k (ended input)) output

-- a prefix of the records of all lines
abbrev pub RecordsPrefix : Job → List ℕ → List ℕ → Type 0
RecordsPrefix job input output = (unwritten : List ℕ) × IsOutput job input (output ++ unwritten)

-- What is written, by the result.
abbrev pub LeavesOutput : Result Unit RunError → Job → List ℕ → List ℕ → Type 0
LeavesOutput (Ok done) job input output = IsOutput job input output
LeavesOutput (Err Memory) job input output = RecordsOfSome job input output
LeavesOutput (Err Write) job input output = RecordsPrefix job input output
LeavesOutput (Err Read) job input output = RecordsOfEnded job input output
LeavesOutput (Err TooManyReads) job input output = RecordsOfEnded job input output

-- No read failed other than by an interruption, and exactly one gave nothing.
abbrev pub ReachesEnd : Calls → Calls → Type 0
ReachesEnd old new = (new.failed ≡ old.failed) × (new.empty ≡ old.empty + 1)

-- No read failed other than by an interruption, and each gave something or was interrupted.
abbrev pub GoesOn : Calls → Calls → Type 0
GoesOn old new = (new.failed ≡ old.failed) × (new.empty ≡ old.empty)

-- Exactly one read failed other than by an interruption, and none gave nothing.
abbrev pub FailsOnce : Calls → Calls → Type 0
FailsOnce old new = (new.failed ≡ old.failed + 1) × (new.empty ≡ old.empty)

-- The reads, by the result. `bound` is the most reads that a run makes.
abbrev pub ReadsFor : ℕ → Result Unit RunError → Calls → Calls → Type 0
ReadsFor bound (Ok done) old new = ReachesEnd old new
ReadsFor bound (Err Read) old new = FailsOnce old new
ReadsFor bound (Err TooManyReads) old new = GoesOn old new × (new.made ≡ old.made + bound)
ReadsFor bound (Err Memory) old new = new.failed ≡ old.failed
ReadsFor bound (Err Write) old new = new.failed ≡ old.failed

-- The writes, by the result: one of them is unsuccessful where it is `Write`, and else none.
abbrev pub WritesFor : Result Unit RunError → Calls → Calls → Type 0
WritesFor (Ok done) old new = unsuccessful new ≡ unsuccessful old
WritesFor (Err Write) old new = unsuccessful new ≡ unsuccessful old + 1
WritesFor (Err Read) old new = unsuccessful new ≡ unsuccessful old
WritesFor (Err TooManyReads) old new = unsuccessful new ≡ unsuccessful old
WritesFor (Err Memory) old new = unsuccessful new ≡ unsuccessful old
