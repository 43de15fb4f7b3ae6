-- What stands when the program ends: on its output, and on `faults`.
use Rattle.std.specs.Prelude.{◌≡◌, ◌≢◌, ◌⊎◌, ℕ, List, [], Option, Result, Ok, Err, OnOk, Vec}
use Rattle.std.specs.Io.KnownBytes.{Appends, IsAtEnd, Keeps}
use Rattle.std.specs.declared.alloc.Global.{Global}
use Rattle.sj_base.specs.Calls.{Calls}
use Rattle.sj_base.specs.Output.{AppendsPrefix, WritesAll, WritesPrefix}
use Rattle.sj_scripts.specs.Command.{Step}
use Rattle.sj_documents.specs.Step.{Job}
use Rattle.sj_records.specs.Record.{IsOutput}
use Rattle.sj_records.specs.Run.{Transfers, RecordsOfSome, RecordsOfEnded, RecordsPrefix}
use Rattle.sj_records.specs.Job.{keeping_of, repeats_of}
use Rattle.sj_scripts.specs.Script.{IsReadAs, IsRefusedAs}
use Rattle.sj_scripts.specs.declared.script.ScriptFault.{ScriptFault}
use Rattle.sj_scripts.specs.declared.script.ScriptFault.TheVariants.{Memory as NoMemory}
use Rattle.records_program.specs.Arguments.{AskForRun, AskForHelp, AreRefused}
use Rattle.records_program.specs.Fault.{line_of, refusal_line}
use Rattle.records_program.specs.declared.arguments.RunArguments.{RunArguments}
use Rattle.records_program.specs.declared.load.LoadFault.TheVariants.{Unreadable as NoFile}
use Rattle.records_program.specs.declared.load.LoadFault.{LoadFault}
use Rattle.records_program.specs.declared.fault.Fault.{Fault}
use Rattle.records_program.specs.declared.fault.Fault.TheVariants.{Memory, Read, Write, Arguments, Unreadable, Script}

-- ---- a run

-- Bytes of the input were read, all of them where the result is `Ok`, bytes were written, and P holds of the two.
abbrev pub ReadsAndWrites : Option (List ℕ) → Option (List ℕ) → Option (List ℕ) → {E : Type 0} → Result Unit E → (List ℕ → List ℕ → Type 0) → Type 0
ReadsAndWrites unread held_old held_new result P =
    (left : Option (List ℕ)) × Transfers unread left held_old held_new P × OnOk result (IsAtEnd left)

-- What a run leaves, by the fault that it ends the program with. A flush that fails is a failed write.
abbrev pub WrittenBy : Result Unit Fault → Job → List ℕ → List ℕ → Type 0
WrittenBy (Ok done) job input output = IsOutput job input output
WrittenBy (Err Memory) job input output = RecordsOfSome job input output
WrittenBy (Err Read) job input output = RecordsOfEnded job input output
WrittenBy (Err Write) job input output = RecordsPrefix job input output
WrittenBy (Err _) job input output = ⊥

abbrev pub RunEnds : Option (List ℕ) → Option (List ℕ) → Option (List ℕ) → Job → Result Unit Fault → Type 0
RunEnds unread held_old held_new job ended = ReadsAndWrites unread held_old held_new ended (WrittenBy ended job)

-- ---- the script; `loads` says what loading the file of a name gives

abbrev pub Loads : Type 1
Loads = List ℕ → Result (Vec ℕ Global) LoadFault → Type 0

-- The words ask for this run, and loading its script gave that.
abbrev pub GivesScript : Loads → List (List ℕ) → RunArguments → Result (Vec ℕ Global) LoadFault → Type 0
GivesScript loads words run loaded = AskForRun words run × loads run.script.now loaded

-- The words ask for this run, and its script has these commands.
abbrev pub HasCommands : Loads → List (List ℕ) → RunArguments → List Step → Type 0
HasCommands loads words run script = (bytes : Vec ℕ Global) × GivesScript loads words run (Ok bytes) × IsReadAs bytes.items (Ok script)

-- what the run does to each line
abbrev pub run_job : RunArguments → List Step → Job
run_job run script = record { script = script; limit = run.depth; keeping = keeping_of run.form; repeats = repeats_of run.repeats }

-- The bytes are refused as a script with this line.
abbrev pub IsRefusedWith : List ℕ → List ℕ → Type 0
IsRefusedWith line bytes = (fault : ScriptFault) × (fault ≢ NoMemory) × IsRefusedAs fault bytes × (line ≡ refusal_line fault)

-- The words ask for a run whose script is refused with this line.
abbrev pub HasRefusal : Loads → List (List ℕ) → List ℕ → Type 0
HasRefusal loads words line = (run : RunArguments) × (bytes : Vec ℕ Global) × GivesScript loads words run (Ok bytes) × IsRefusedWith line bytes.items

-- ---- the program

-- The run that the words ask for ended so.
abbrev pub Ran : Loads → List (List ℕ) → Option (List ℕ) → Option (List ℕ) → Option (List ℕ) → Result Unit Fault → Type 0
Ran loads words unread held_old held_new ended =
    (run : RunArguments) × (script : List Step) × HasCommands loads words run script × RunEnds unread held_old held_new (run_job run script) ended

-- The words ask for the help, and it was written, or a prefix of it. Its text is that of `clap`.
abbrev pub HelpWritten : List (List ℕ) → Option (List ℕ) → Option (List ℕ) → Type 0
HelpWritten words held_old held_new = AskForHelp words × ((help : List ℕ) × Appends held_old held_new help)

abbrev pub HelpBegun : List (List ℕ) → Option (List ℕ) → Option (List ℕ) → Type 0
HelpBegun words held_old held_new = AskForHelp words × ((help : List ℕ) × AppendsPrefix held_old held_new help)

-- What the program leaves on its output, by its end, and why it ended so. Any allocation may fail.
abbrev pub ProgramLeaves : Loads → List (List ℕ) → Option (List ℕ) → Option (List ℕ) → Option (List ℕ) → Result Unit Fault → Type 0
ProgramLeaves loads words unread held_old held_new (Ok done) = Ran loads words unread held_old held_new (Ok done) ⊎ HelpWritten words held_old held_new
ProgramLeaves loads words unread held_old held_new (Err Memory) = Ran loads words unread held_old held_new (Err Memory) ⊎ Keeps held_old held_new
ProgramLeaves loads words unread held_old held_new (Err Read) = Ran loads words unread held_old held_new (Err Read)
ProgramLeaves loads words unread held_old held_new (Err Write) = Ran loads words unread held_old held_new (Err Write) ⊎ HelpBegun words held_old held_new
ProgramLeaves loads words unread held_old held_new (Err (Arguments text)) = AreRefused words × Keeps held_old held_new
ProgramLeaves loads words unread held_old held_new (Err Unreadable) = ((run : RunArguments) × GivesScript loads words run (Err NoFile)) × Keeps held_old held_new
ProgramLeaves loads words unread held_old held_new (Err (Script line)) = HasRefusal loads words line.items × Keeps held_old held_new

-- What the program leaves on `faults`, by its end: the line of the fault, or a prefix of it before a write that failed,
-- was interrupted or took no byte.
abbrev pub Reports : Result Unit Fault → Option (List ℕ) → Option (List ℕ) → Calls → Calls → Type 0
Reports (Ok done) told_old told_new calls_old calls_new = WritesAll told_old told_new calls_old calls_new []
Reports (Err fault) told_old told_new calls_old calls_new =
    WritesAll told_old told_new calls_old calls_new (line_of fault) ⊎ WritesPrefix told_old told_new calls_old calls_new (line_of fault)
