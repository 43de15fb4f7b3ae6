-- What reading answers, against the definitions: a command and a script against those of the tree. Lack of memory says nothing.
use Rattle.std.specs.Prelude.{◌≡◌, ◌≢◌, Result, Ok, Err, ⊤}
use Rattle.sj_base.specs.declared.error.Error.{Error}
use Rattle.sj_base.specs.declared.error.ErrorType.TheVariants.{OutOfMemory}
use Rattle.sj_scripts.specs.declared.memory_or.MemoryOr.{MemoryOr}
use Rattle.sj_scripts.specs.declared.memory_or.MemoryOr.TheVariants.{Memory, Refused}
use Rattle.sj_scripts.specs.declared.script.ScriptFault.{ScriptFault}
use Rattle.sj_scripts.specs.declared.script.ScriptFault.TheVariants as faults
use Rattle.sj_scripts.specs.Command.{Refusal, not_an_array, command}

-- for a refusal, and not for lack of memory
abbrev pub IfRefused : {T : Type 0} → MemoryOr T → (T → Type 0) → Type 0
IfRefused Memory P = ⊤
IfRefused (Refused why) P = P why

-- What the error of a reading call is carried on as: lack of memory, or the fault of the text.
abbrev pub IsReadError : Error → MemoryOr Error → Type 0
IsReadError e Memory = e.error ≡ OutOfMemory
IsReadError e (Refused why) = (why ≡ e) × (e.error ≢ OutOfMemory)

abbrev pub IsScriptFault : Error → ScriptFault → Type 0
IsScriptFault e (faults.Json why) = (why ≡ e) × (e.error ≢ OutOfMemory)
IsScriptFault e faults.NotAnArray = ⊥
IsScriptFault e (faults.Command place fault) = ⊥
IsScriptFault e faults.Memory = e.error ≡ OutOfMemory

-- The error is that of the tree.
abbrev pub IsFaultOf : {A F : Type 0} → MemoryOr F → Result A F → Type 0
IsFaultOf Memory read = ⊤
IsFaultOf (Refused fault) read = read ≡ Err fault

abbrev pub GivesCommand : {X A F : Type 0} → (X → A) → Result X (MemoryOr F) → Result A F → Type 0
GivesCommand view (Ok x) read = read ≡ Ok (view x)
GivesCommand view (Err e) read = IsFaultOf e read

abbrev pub IsRefusalOf : {A : Type 0} → ScriptFault → Result A Refusal → Type 0
IsRefusalOf (faults.Json e) read = ⊥
IsRefusalOf faults.NotAnArray read = read ≡ Err not_an_array
IsRefusalOf (faults.Command place fault) read = read ≡ Err (command place fault)
IsRefusalOf faults.Memory read = ⊤

abbrev pub GivesSteps : {X A : Type 0} → (X → A) → Result X ScriptFault → Result A Refusal → Type 0
GivesSteps view (Ok x) read = read ≡ Ok (view x)
GivesSteps view (Err e) read = IsRefusalOf e read
