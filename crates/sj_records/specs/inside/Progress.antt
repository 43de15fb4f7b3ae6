-- What has been written of the lines that were cut so far.
use Rattle.std.specs.Prelude.{◌≢◌, ℕ, List, ◌++◌, take, Option, Result, Ok, Err}
use Rattle.std.specs.List.{AllByRecursion}
use Rattle.std.specs.Io.KnownBytes.{Appends}
use Rattle.sj_base.specs.Output.{AppendsPrefix}
use Rattle.sj_records.specs.declared.run_error.RunError.{RunError}
use Rattle.sj_records.specs.declared.run_error.RunError.TheVariants.{Memory, Write}
use Rattle.sj_records.specs.declared.task.Task.{Task}
use Rattle.sj_documents.specs.Step.{Job}
use Rattle.sj_records.specs.Record.{AreRecords}
use Rattle.sj_records.specs.Job.{job_of}

abbrev pub HasNoLineFeed : List ℕ → Type 0
HasNoLineFeed bs = AllByRecursion (λ b. b ≢ 0x0a) bs

abbrev pub task_job : Task → Job
task_job task = job_of task.script.now task.depth task.form task.repeats

-- the records of these lines were written, and nothing else
abbrev pub Wrote : Job → Option (List ℕ) → Option (List ℕ) → List (List ℕ) → Type 0
Wrote job old new lines = (bytes : List ℕ) × Appends old new bytes × AreRecords job lines bytes

-- those of the first of them
abbrev pub WroteSome : Job → Option (List ℕ) → Option (List ℕ) → List (List ℕ) → Type 0
WroteSome job old new lines = (k : ℕ) × Wrote job old new (take k lines)

-- a prefix of their records
abbrev pub WrotePrefix : Job → Option (List ℕ) → Option (List ℕ) → List (List ℕ) → Type 0
WrotePrefix job old new lines = (bytes unwritten : List ℕ) × Appends old new bytes × AreRecords job lines (bytes ++ unwritten)

-- What is written of these lines, by the result: after `Memory` whole records, of the first of `ended`.
abbrev pub LeavesLines : Result Unit RunError → Job → Option (List ℕ) → Option (List ℕ) → List (List ℕ) → List (List ℕ) → Type 0
LeavesLines (Ok done) job old new ended lines = Wrote job old new lines
LeavesLines (Err Memory) job old new ended lines = WroteSome job old new ended
LeavesLines (Err Write) job old new ended lines = WrotePrefix job old new lines
LeavesLines (Err _) job old new ended lines = ⊥

-- the bytes, or a prefix of them after `Write`
abbrev pub LeavesBytes : Result Unit RunError → Option (List ℕ) → Option (List ℕ) → List ℕ → Type 0
LeavesBytes (Ok done) old new bytes = Appends old new bytes
LeavesBytes (Err Write) old new bytes = AppendsPrefix old new bytes
LeavesBytes (Err _) old new bytes = ⊥
