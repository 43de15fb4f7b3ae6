-- Scripts: the commands of a script's document, or its first fault.
use Rattle.std.specs.Prelude.{ℕ, pos, suc, if◌then◌else◌, List, [], ◌∷◌, Result, Ok, Err, codes, bytes_eq}
use Rattle.sj_base.specs.Tree.{Tree, integer, string, list, Items, no_items, item}
use Rattle.sj_base.specs.Keep.{keep}
use Rattle.sj_base.specs.Path.{Part, key, place}
use Rattle.sj_base.specs.declared.error.Error.{Error}
use Rattle.sj_scripts.specs.declared.script.CommandFault.{CommandFault}
use Rattle.sj_scripts.specs.declared.script.CommandFault.TheVariants.{NotAnArray, NoName, UnknownName, WrongCount, BadPath, BadKey}

-- a command, with a path, a key and a value where it has them
pub data Step : Type 0 where
  get : List Part → Step
  contains : List Part → List ℕ → Step
  type_of : List Part → Step
  len : List Part → Step
  keys : List Part → Step
  insert : List Part → List ℕ → Tree → Step
  remove : List Part → List ℕ → Step
  push : List Part → Tree → Step
  pop : List Part → Step
  set_at : List Part → Tree → Step
  undo : Step
  reload : Step
  reload_pp : Step

-- why a script is refused
pub data Refusal : Type 0 where
  json : Error → Refusal  -- the bytes are no document
  not_an_array : Refusal  -- the document is no array
  command : ℕ → CommandFault → Refusal  -- the command at this index, from 0

-- what the second makes of the value of the first, or the fault of the first
infixl 10 ◌>>=◌
abbrev pub ◌>>=◌ : {F A B : Type 0} → Result A F → (A → Result B F) → Result B F
(Ok x) >>= f = f x
(Err e) >>= f = Err e

-- a string or an integer not below 0
abbrev pub as_part : Tree → Result Part CommandFault
as_part (string s) = Ok (key s)
as_part (integer (pos n)) = Ok (place n)
as_part _ = Err BadPath

abbrev pub as_parts : Items → Result (List Part) CommandFault
as_parts no_items = Ok []
as_parts (item t ts) = as_part t >>= λ part. as_parts ts >>= λ path. Ok (part ∷ path)

-- an array of these
abbrev pub as_path : Tree → Result (List Part) CommandFault
as_path (list ts) = as_parts ts
as_path _ = Err BadPath

-- a string
abbrev pub as_key : Tree → Result (List ℕ) CommandFault
as_key (string s) = Ok s
as_key _ = Err BadKey

-- What the arguments of a command are, by what it takes. Their number is looked at first, then the path, then the key.
abbrev pub path_alone : Items → Result (List Part) CommandFault
path_alone (item t no_items) = as_path t
path_alone _ = Err WrongCount

abbrev pub path_and_key : Items → Result (List Part × List ℕ) CommandFault
path_and_key (item t (item u no_items)) = as_path t >>= λ path. as_key u >>= λ k. Ok (path, k)
path_and_key _ = Err WrongCount

abbrev pub path_and_value : Items → Result (List Part × Tree) CommandFault
path_and_value (item t (item u no_items)) = as_path t >>= λ path. Ok (path, u)
path_and_value _ = Err WrongCount

abbrev pub path_key_value : Items → Result (List Part × List ℕ × Tree) CommandFault
path_key_value (item t (item u (item v no_items))) = as_path t >>= λ path. as_key u >>= λ k. Ok (path, k, v)
path_key_value _ = Err WrongCount

-- a command without arguments
abbrev pub nullary : Step → Items → Result Step CommandFault
nullary c no_items = Ok c
nullary c (item t ts) = Err WrongCount

-- the command of a name, with these arguments
abbrev pub named : List ℕ → Items → Result Step CommandFault
named name arguments =
    if bytes_eq name (codes "get") then (path_alone arguments >>= λ path. Ok (get path)) else
    if bytes_eq name (codes "contains") then (path_and_key arguments >>= λ a. Ok (contains a.0 a.1)) else
    if bytes_eq name (codes "type") then (path_alone arguments >>= λ path. Ok (type_of path)) else
    if bytes_eq name (codes "len") then (path_alone arguments >>= λ path. Ok (len path)) else
    if bytes_eq name (codes "keys") then (path_alone arguments >>= λ path. Ok (keys path)) else
    if bytes_eq name (codes "insert") then (path_key_value arguments >>= λ a. Ok (insert a.0 a.1 a.2)) else
    if bytes_eq name (codes "remove") then (path_and_key arguments >>= λ a. Ok (remove a.0 a.1)) else
    if bytes_eq name (codes "push") then (path_and_value arguments >>= λ a. Ok (push a.0 a.1)) else
    if bytes_eq name (codes "pop") then (path_alone arguments >>= λ path. Ok (pop path)) else
    if bytes_eq name (codes "set") then (path_and_value arguments >>= λ a. Ok (set_at a.0 a.1)) else
    if bytes_eq name (codes "undo") then nullary undo arguments else
    if bytes_eq name (codes "reload") then nullary reload arguments else
    if bytes_eq name (codes "reload_pp") then nullary reload_pp arguments else
    Err UnknownName

abbrev pub command_of : Tree → Result Step CommandFault
command_of (list (item (string name) arguments)) = named name arguments
command_of (list _) = Err NoName
command_of _ = Err NotAnArray

-- a command's fault, with the command's index
abbrev pub with_index : {A : Type 0} → ℕ → Result A CommandFault → Result A Refusal
with_index n (Ok x) = Ok x
with_index n (Err fault) = Err (command n fault)

-- commands of which the first has this index
abbrev pub commands_from : ℕ → Items → Result (List Step) Refusal
commands_from n no_items = Ok []
commands_from n (item t ts) = with_index n (command_of t) >>= λ step. commands_from (suc n) ts >>= λ steps. Ok (step ∷ steps)

-- the commands in an array of them
abbrev pub commands_in : Tree → Result (List Step) Refusal
commands_in (list ts) = commands_from 0 ts
commands_in _ = Err not_an_array

-- The commands of a script's document. Of members with equal keys in it only the first is kept.
abbrev pub commands_of : Tree → Result (List Step) Refusal
commands_of t = commands_in (keep t)
