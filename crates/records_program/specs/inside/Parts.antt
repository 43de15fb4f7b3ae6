-- What the parts of the program give: the arguments, the script and the run.
use Rattle.std.specs.Prelude.{ℕ, List, Option, Result, Ok, Err, ⊤}
use Rattle.sj_documents.specs.Step.{Job}
use Rattle.sj_records.specs.Run.{LeavesOutput}
use Rattle.sj_records.specs.declared.run_error.RunError.{RunError}
use Rattle.records_program.specs.Arguments.{AskForRun, AskForHelp, AreRefused}
use Rattle.records_program.specs.Program.{ReadsAndWrites, IsRefusedWith}
use Rattle.records_program.specs.declared.arguments.Arguments as arguments
use Rattle.records_program.specs.declared.arguments.Arguments.TheVariants.{Run, Help}
use Rattle.records_program.specs.declared.fault.Fault.{Fault}
use Rattle.records_program.specs.declared.fault.Fault.TheVariants.{Memory, Arguments, Script}

-- What the words are parsed as. Any allocation may fail.
abbrev pub AreParsedAs : List (List ℕ) → Result arguments.Arguments Fault → Type 0
AreParsedAs words (Ok (Run run)) = AskForRun words run
AreParsedAs words (Ok (Help text)) = AskForHelp words
AreParsedAs words (Err (Arguments text)) = AreRefused words
AreParsedAs words (Err Memory) = ⊤
AreParsedAs words (Err _) = ⊥

-- The fault of such bytes, where memory suffices.
abbrev pub RefusesBytes : List ℕ → Fault → Type 0
RefusesBytes bytes (Script line) = IsRefusedWith line.items bytes
RefusesBytes bytes Memory = ⊤
RefusesBytes bytes _ = ⊥

-- What a run leaves.
abbrev pub RunLeaves : Option (List ℕ) → Option (List ℕ) → Option (List ℕ) → Job → Result Unit RunError → Type 0
RunLeaves unread held_old held_new job result = ReadsAndWrites unread held_old held_new result (LeavesOutput result job)
