-- The statuses and the lines of the program's faults.
use Rattle.std.specs.Prelude.{◌≡◌, ◌≢◌, ℕ, List, [], ◌∷◌, ◌++◌, codes, string_bytes, Result, Ok, Err}
use Rattle.std.specs.IoError.{error_kind}
use Rattle.std.specs.declared.io.Error.{Error}
use Rattle.std.specs.declared.io.ErrorKind.TheVariants.{OutOfMemory}
use Rattle.sj_scripts.specs.Script.{fault_text}
use Rattle.sj_scripts.specs.declared.script.ScriptFault.{ScriptFault}
use Rattle.records_program.specs.declared.fault.Fault.{Fault}
use Rattle.records_program.specs.declared.load.LoadFault.{LoadFault}
use Rattle.records_program.specs.declared.load.LoadFault.TheVariants.{Memory as NoRoom, Unreadable as NoFile}
use Rattle.sj_records.specs.declared.run_error.RunError.{RunError}
use Rattle.sj_records.specs.declared.run_error.RunError.TheVariants.{Memory as RunMemory, Write as RunWrite, Read as RunRead, TooManyReads}
use Rattle.records_program.specs.declared.fault.Fault.TheVariants.{Memory, Read, Write, Arguments, Unreadable, Script}

-- 1 where memory, the input or the output failed, 2 where the arguments or the script did
abbrev pub status_of : Fault → ℕ
status_of Memory = 1
status_of Read = 1
status_of Write = 1
status_of (Arguments text) = 2
status_of Unreadable = 2
status_of (Script line) = 2

-- the status of the program
abbrev pub exit_status : Result Unit Fault → ℕ
exit_status (Ok done) = 0
exit_status (Err fault) = status_of fault

-- the line of the fault, which for refused arguments is the text of `clap`
abbrev pub line_of : Fault → List ℕ
line_of Memory = codes "records: memory" ++ 10 ∷ []
line_of Read = codes "records: read" ++ 10 ∷ []
line_of Write = codes "records: write" ++ 10 ∷ []
line_of (Arguments text) = string_bytes text
line_of Unreadable = codes "records: cannot read script" ++ 10 ∷ []
line_of (Script line) = line.items

-- the line of a script that is refused
abbrev pub refusal_line : ScriptFault → List ℕ
refusal_line fault = codes "records: script: " ++ (fault_text fault ++ 10 ∷ [])

-- the fault of a file at which the system gave this error
abbrev pub IsLoadFault : Error → LoadFault → Type 0
IsLoadFault e fault = (error_kind e ≡ OutOfMemory → fault ≡ NoRoom) × (error_kind e ≢ OutOfMemory → fault ≡ NoFile)

-- the fault of a file that is not loaded
abbrev pub of_load : LoadFault → Fault
of_load NoRoom = Memory
of_load NoFile = Unreadable

-- The fault of a run. An input without an end is one that failed.
abbrev pub of_run : RunError → Fault
of_run RunMemory = Memory
of_run RunWrite = Write
of_run RunRead = Read
of_run TooManyReads = Read
