-- What the values of this crate stand for: the commands of a script, and a script's fault.
use Rattle.std.specs.Prelude.{ℕ, List, map, ◌++◌, codes, decimal, Result, Ok, Err, ⊤}
use Rattle.std.specs.String.{string_bytes}
use Rattle.sj_base.specs.Path.{Part, key, place}
use Rattle.sj_base.specs.Names.{name_of}
use Rattle.sj_scripts.specs.declared.path.PathPart.{PathPart}
use Rattle.sj_scripts.specs.declared.path.PathPart.TheVariants.{Key, Item}
use Rattle.sj_scripts.specs.declared.script.Command.{Command}
use Rattle.sj_scripts.specs.declared.script.Command.TheVariants.{Get, Contains, TypeOf, Len, Keys, Insert, Remove, Push, Pop, SetAt, Undo, Reload, ReloadPp}
use Rattle.sj_scripts.specs.declared.script.CommandFault.{CommandFault}
use Rattle.sj_scripts.specs.declared.script.CommandFault.TheVariants as faults
use Rattle.sj_scripts.specs.declared.script.ScriptFault.{ScriptFault}
use Rattle.sj_scripts.specs.declared.script.ScriptFault.TheVariants.{Json, NotAnArray, Command as CommandAt, Memory}
use Rattle.sj_scripts.specs.Values.{owned_tree}
use Rattle.sj_scripts.specs.Command.{Step, get, contains, type_of, len, keys, insert, remove, push, pop, set_at, undo, reload, reload_pp, Refusal, json, not_an_array, command, commands_of}
use Rattle.sj_scripts.specs.Reading.{ComesOf}

abbrev pub part_view : PathPart → Part
part_view (Key k) = key (string_bytes k)
part_view (Item n) = place n

abbrev pub path_view : List PathPart → List Part
path_view parts = map part_view parts

abbrev pub command_view : Command → Step
command_view (Get path) = get (path_view path.items)
command_view (Contains path k) = contains (path_view path.items) (string_bytes k)
command_view (TypeOf path) = type_of (path_view path.items)
command_view (Len path) = len (path_view path.items)
command_view (Keys path) = keys (path_view path.items)
command_view (Insert path k v) = insert (path_view path.items) (string_bytes k) (owned_tree v.value)
command_view (Remove path k) = remove (path_view path.items) (string_bytes k)
command_view (Push path v) = push (path_view path.items) (owned_tree v.value)
command_view (Pop path) = pop (path_view path.items)
command_view (SetAt path v) = set_at (path_view path.items) (owned_tree v.value)
command_view Undo = undo
command_view Reload = reload
command_view ReloadPp = reload_pp

abbrev pub commands_view : List Command → List Step
commands_view commands = map command_view commands

-- the most levels that a script nests
abbrev pub script_limit : ℕ
script_limit = 1024

-- What a script's bytes are read as: the commands of its document, or the first refusal.
abbrev pub IsReadAs : List ℕ → Result (List Step) Refusal → Type 0
IsReadAs bytes r = ComesOf commands_of (λ e. Err (json e)) bytes script_limit r

-- a script that some bytes are read as
abbrev pub IsAccepted : List Step → Type 0
IsAccepted script = (bytes : List ℕ) × IsReadAs bytes (Ok script)

-- The bytes are refused with this fault. `Memory` says nothing of the bytes.
abbrev pub IsRefusedAs : ScriptFault → List ℕ → Type 0
IsRefusedAs (Json e) bytes = IsReadAs bytes (Err (json e))
IsRefusedAs NotAnArray bytes = IsReadAs bytes (Err not_an_array)
IsRefusedAs (CommandAt index fault) bytes = IsReadAs bytes (Err (command index fault))
IsRefusedAs Memory bytes = ⊤

-- the texts of faults

abbrev pub command_fault_name : CommandFault → List ℕ
command_fault_name faults.NotAnArray = codes "NotAnArray"
command_fault_name faults.NoName = codes "NoName"
command_fault_name faults.UnknownName = codes "UnknownName"
command_fault_name faults.WrongCount = codes "WrongCount"
command_fault_name faults.BadPath = codes "BadPath"
command_fault_name faults.BadKey = codes "BadKey"

abbrev pub fault_text : ScriptFault → List ℕ
fault_text (Json e) = name_of e.error ++ codes " at " ++ decimal e.index
fault_text NotAnArray = codes "NotAnArray"
fault_text (CommandAt index fault) = codes "command " ++ decimal index ++ codes ": " ++ command_fault_name fault
fault_text Memory = codes "memory"
