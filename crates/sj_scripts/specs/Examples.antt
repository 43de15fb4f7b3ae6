-- Worked values: the commands of scripts.
use Rattle.std.specs.Prelude.{◌≡◌, refl, ℕ, List, pos, negsuc, true, [], ◌∷◌, Ok, Err, codes}
use Rattle.std.specs.Char.{encode_utf8}
use Rattle.std.specs.Str.{chars, is_utf8}
use Rattle.std.proofs.Common.{inr}
use Rattle.sj_base.specs.Tree.{Tree, integer, string, list, object, Items, no_items, item, no_members, member}
use Rattle.sj_base.specs.Path.{key, place}
use Rattle.sj_base.specs.Number.{signed}
use Rattle.sj_base.specs.declared.error.ErrorType.TheVariants.{Syntax}
use Rattle.sj_scripts.specs.declared.script.CommandFault.TheVariants.{NotAnArray, NoName, UnknownName, WrongCount, BadPath, BadKey}
use Rattle.sj_scripts.specs.Command.{get, contains, type_of, len, keys, insert, remove, push, pop, set_at, undo, reload, reload_pp, json, command, not_an_array, commands_of}
use Rattle.sj_parse.specs.Fault.{generic}
use Rattle.sj_scripts.specs.Script.{IsReadAs}

-- scripts

abbrev pub one : Tree → Items
one t = item t no_items

-- ["get",ARGUMENT]
abbrev get_command : Tree → Tree
get_command argument = list (item (string (codes "get")) (one argument))

-- -1
abbrev minus_one : Tree
minus_one = integer (negsuc 0)

object_as_script : commands_of (object no_members) ≡ Err not_an_array
object_as_script = refl

empty_script : commands_of (list no_items) ≡ Ok []
empty_script = refl

get_without_path : commands_of (list (one (list (one (string (codes "get")))))) ≡ Err (command 0 WrongCount)
get_without_path = refl

negative_place : commands_of (list (one (get_command (list (one minus_one))))) ≡ Err (command 0 BadPath)
negative_place = refl

command_without_name : commands_of (list (one (list no_items))) ≡ Err (command 0 NoName)
command_without_name = refl

number_as_command : commands_of (list (one (integer (pos 7)))) ≡ Err (command 0 NotAnArray)
number_as_command = refl

-- [["get",[]],["frob",[]]]
unknown_second_name : commands_of (list (item (get_command (list no_items)) (one (list (item (string (codes "frob")) (one (list no_items))))))) ≡ Err (command 1 UnknownName)
unknown_second_name = refl

-- [["get",[-1],1]]: the number of arguments is looked at first
count_before_path : commands_of (list (one (list (item (string (codes "get")) (item (list (one minus_one)) (one (integer (pos 1)))))))) ≡ Err (command 0 WrongCount)
count_before_path = refl

-- [["get",[-0]]]
minus_zero_as_place : commands_of (list (one (get_command (list (one (integer (signed true 0))))))) ≡ Ok (get (place 0 ∷ []) ∷ [])
minus_zero_as_place = refl

-- [["get",["a",1]]]
key_and_place : commands_of (list (one (get_command (list (item (string (codes "a")) (one (integer (pos 1)))))))) ≡ Ok (get (key (codes "a") ∷ place 1 ∷ []) ∷ [])
key_and_place = refl

abbrev pub two : Tree → Tree → Items
two t u = item t (one u)

abbrev three : Tree → Tree → Tree → Items
three t u v = item t (two u v)

abbrev pub word : List ℕ → Tree
word s = string s

abbrev pub number : ℕ → Tree
number n = integer (pos n)

abbrev pub empty_list : Tree
empty_list = list no_items

abbrev pub empty_object : Tree
empty_object = object no_members

-- {"a":1,"a":2}
abbrev pub repeated_key : Tree
repeated_key = object (member (codes "a") (number 1) (member (codes "a") (number 2) no_members))

-- {"a":1}
abbrev pub a_is_1 : Tree
a_is_1 = object (member (codes "a") (number 1) no_members)

-- a script of one command with this name and these arguments
abbrev script_of : List ℕ → Items → Tree
script_of name arguments = list (one (list (item (word name) arguments)))

-- [["insert",[],"x",{"a":1,"a":2}]]
value_kept : commands_of (script_of (codes "insert") (three empty_list (word (codes "x")) repeated_key)) ≡ Ok (insert [] (codes "x") a_is_1 ∷ [])
value_kept = refl

contains_read : commands_of (script_of (codes "contains") (two empty_list (word (codes "b")))) ≡ Ok (contains [] (codes "b") ∷ [])
contains_read = refl

type_read : commands_of (script_of (codes "type") (one empty_list)) ≡ Ok (type_of [] ∷ [])
type_read = refl

len_read : commands_of (script_of (codes "len") (one empty_list)) ≡ Ok (len [] ∷ [])
len_read = refl

keys_read : commands_of (script_of (codes "keys") (one empty_list)) ≡ Ok (keys [] ∷ [])
keys_read = refl

remove_read : commands_of (script_of (codes "remove") (two empty_list (word (codes "b")))) ≡ Ok (remove [] (codes "b") ∷ [])
remove_read = refl

push_read : commands_of (script_of (codes "push") (two empty_list (number 7))) ≡ Ok (push [] (number 7) ∷ [])
push_read = refl

pop_read : commands_of (script_of (codes "pop") (one empty_list)) ≡ Ok (pop [] ∷ [])
pop_read = refl

set_read : commands_of (script_of (codes "set") (two empty_list (number 7))) ≡ Ok (set_at [] (number 7) ∷ [])
set_read = refl

-- [["contains",1]]
count_before_path_of_contains : commands_of (script_of (codes "contains") (one (number 1))) ≡ Err (command 0 WrongCount)
count_before_path_of_contains = refl

-- [["insert",[],1,2]]
number_as_key : commands_of (script_of (codes "insert") (three empty_list (number 1) (number 2))) ≡ Err (command 0 BadKey)
number_as_key = refl

-- [["remove",7,1]]
path_before_key : commands_of (script_of (codes "remove") (two (number 7) (number 1))) ≡ Err (command 0 BadPath)
path_before_key = refl

reload_read : commands_of (script_of (codes "reload") no_items) ≡ Ok (reload ∷ [])
reload_read = refl

reload_pp_read : commands_of (script_of (codes "reload_pp") no_items) ≡ Ok (reload_pp ∷ [])
reload_pp_read = refl

reload_with_argument : commands_of (script_of (codes "reload") (one empty_list)) ≡ Err (command 0 WrongCount)
reload_with_argument = refl

undo_read : commands_of (script_of (codes "undo") no_items) ≡ Ok (undo ∷ [])
undo_read = refl

undo_with_argument : commands_of (script_of (codes "undo") (one empty_list)) ≡ Err (command 0 WrongCount)
undo_with_argument = refl

no_redo : commands_of (script_of (codes "redo") no_items) ≡ Err (command 0 UnknownName)
no_redo = refl

-- a script that is no document

cut_script : IsReadAs (codes "[\"a") (Err (json (generic Syntax)))
unfolding is_utf8 chars encode_utf8
cut_script = inr (generic Syntax, refl, refl)
