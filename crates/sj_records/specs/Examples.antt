-- Worked values: lines, and records.
use Rattle.std.specs.Prelude.{◌≡◌, refl, ℕ, List, pos, true, false, [], ◌∷◌, ◌++◌, Some, None, codes}
use Rattle.std.specs.Char.{encode_utf8}
use Rattle.std.specs.Fmt.{digits}
use Rattle.std.specs.Str.{chars, is_utf8}
use Rattle.std.proofs.Common.{inr}
use Rattle.sj_base.specs.Tree.{Tree, null, boolean, integer, decimal, string, list, object, item, no_members, member}
use Rattle.sj_base.specs.Path.{key, place}
use Rattle.sj_base.specs.Number.{signed}
use Rattle.sj_base.specs.Text.{text}
use Rattle.sj_base.specs.declared.error.ErrorType.TheVariants.{Eof, ExpectedTrue, InternalError, Syntax}
use Rattle.sj_records.specs.Lines.{lines}
use Rattle.sj_scripts.specs.Command.{Step, get, contains, type_of, len, keys, insert, remove, push, pop, set_at, undo, reload, reload_pp}
use Rattle.sj_documents.specs.Inverse.{drop_item, set_part}
use Rattle.sj_documents.specs.Step.{Job, Keeping, from_start, from_write, runs_on_repeats, refuses_repeats, begun, after}
use Rattle.sj_parse.specs.Descent.{value}
use Rattle.sj_parse.specs.Fault.{generic}
use Rattle.sj_records.specs.History.{bases_from}
use Rattle.sj_records.specs.Record.{outcome, tree_record, IsRecord}
use Rattle.sj_records.specs.Texts.{reloads, rereads}
use Rattle.sj_scripts.specs.Examples.{one, two, word, number, empty_list, empty_object, repeated_key, a_is_1}

-- lines

no_line : lines [] ≡ []
no_line = refl

one_empty_line : lines (codes "\n") ≡ [] ∷ []
one_empty_line = refl

line_without_line_feed : lines (codes "null") ≡ codes "null" ∷ []
line_without_line_feed = refl

two_lines : lines (codes "a\nb\n") ≡ codes "a" ∷ codes "b" ∷ []
two_lines = refl

carriage_return_stays : lines (codes "1\r\n") ≡ codes "1\r" ∷ []
carriage_return_stays = refl

empty_line_between : lines (codes "a\n\nb") ≡ codes "a" ∷ [] ∷ codes "b" ∷ []
empty_line_between = refl

-- records of documents

abbrev job : Keeping → ℕ → List Step → Job
job keeping limit script = record { script = script; limit = limit; keeping = keeping; repeats = runs_on_repeats }

-- the script on documents whose repeats are dropped at the start
abbrev owned : List Step → Job
owned script = job from_start 1024 script

-- and on documents whose repeats are dropped by the first write
abbrev lazy : List Step → Job
lazy script = job from_write 1024 script

-- {"key": "value", "snot": 42}
abbrev key_and_snot : Tree
key_and_snot = object (member (codes "key") (string (codes "value")) (member (codes "snot") (integer (pos 42)) no_members))

member_replied : text (outcome (owned (get (key (codes "key") ∷ []) ∷ [])) key_and_snot) ≡ codes "{\"replies\":[[\"value\"]],\"document\":{\"key\":\"value\",\"snot\":42}}"
unfolding digits
member_replied = refl

first_member_replied : text (outcome (owned (get (key (codes "a") ∷ []) ∷ get (key (codes "b") ∷ []) ∷ [])) repeated_key) ≡ codes "{\"replies\":[[1],[]],\"document\":{\"a\":1}}"
unfolding digits
first_member_replied = refl

-- [-0,[7]]
abbrev minus_zero_and_list : Tree
minus_zero_and_list = list (item (integer (signed true 0)) (one (list (one (integer (pos 7))))))

item_replied : text (outcome (owned (get (place 1 ∷ []) ∷ [])) minus_zero_and_list) ≡ codes "{\"replies\":[[[7]]],\"document\":[0,[7]]}"
unfolding digits
item_replied = refl

no_command : text (outcome (owned []) minus_zero_and_list) ≡ codes "{\"replies\":[],\"document\":[0,[7]]}"
unfolding digits
no_command = refl

-- get-insert-get
abbrev get_insert_get : List Step
get_insert_get = get (key (codes "key") ∷ []) ∷ insert [] (codes "new") (number 42) ∷ get (key (codes "new") ∷ []) ∷ []

new_member_replied : text (outcome (owned get_insert_get) key_and_snot) ≡ codes "{\"replies\":[[\"value\"],[],[42]],\"document\":{\"key\":\"value\",\"snot\":42,\"new\":42}}"
unfolding digits
new_member_replied = refl

-- repeats-len: a refused write drops repeats where none was dropped before
abbrev len_push_len : List Step
len_push_len = len [] ∷ push [] (number 0) ∷ len [] ∷ []

repeats_dropped_at_start : text (outcome (owned len_push_len) repeated_key) ≡ codes "{\"replies\":[1,\"NotAnArray\",1],\"document\":{\"a\":1}}"
unfolding digits
repeats_dropped_at_start = refl

repeats_dropped_by_write : text (outcome (lazy len_push_len) repeated_key) ≡ codes "{\"replies\":[2,\"NotAnArray\",1],\"document\":{\"a\":1}}"
unfolding digits
repeats_dropped_by_write = refl

repeats_read : text (outcome (lazy (get (key (codes "a") ∷ []) ∷ keys [] ∷ [])) repeated_key) ≡ codes "{\"replies\":[[1],[\"a\",\"a\"]],\"document\":{\"a\":1,\"a\":2}}"
unfolding digits
repeats_read = refl

-- repeats-reload
abbrev reload_len : List Step
reload_len = reload ∷ len [] ∷ []

repeats_reloaded : text (outcome (lazy reload_len) repeated_key) ≡ codes "{\"replies\":[true,2],\"document\":{\"a\":1,\"a\":2}}"
unfolding digits
repeats_reloaded = refl

kept_reloaded : text (outcome (owned reload_len) repeated_key) ≡ codes "{\"replies\":[true,1],\"document\":{\"a\":1}}"
unfolding digits
kept_reloaded = refl

-- [["reload_pp"],["remove",[],"a"],["reload"]]
reloaded_twice : text (outcome (owned (reload_pp ∷ remove [] (codes "a") ∷ reload ∷ [])) a_is_1) ≡ codes "{\"replies\":[true,[1],true],\"document\":{}}"
unfolding digits
reloaded_twice = refl

-- [["remove",[],"a"],["reload"],["insert",[],"c",3],["undo"],["undo"],["undo"]]: the removed member comes back at its place
abbrev undone_twice : List Step
undone_twice = remove [] (codes "a") ∷ reload ∷ insert [] (codes "c") (number 3) ∷ undo ∷ undo ∷ undo ∷ []

abbrev a_and_b : Tree
a_and_b = object (member (codes "a") (number 1) (member (codes "b") (number 2) no_members))

writes_undone : text (outcome (owned undone_twice) a_and_b) ≡ codes "{\"replies\":[[1],true,[],true,true,false],\"document\":{\"a\":1,\"b\":2}}"
unfolding digits
writes_undone = refl

-- [["undo"],["len",[]],["remove",[],"a"],["undo"]]: repeats that a write dropped stay away
repeats_undone : text (outcome (lazy (undo ∷ len [] ∷ remove [] (codes "a") ∷ undo ∷ [])) repeated_key) ≡ codes "{\"replies\":[false,2,[1],true],\"document\":{\"a\":1}}"
unfolding digits
repeats_undone = refl

-- a refused write isn't taken back, and one that found nothing is
nothing_undone : text (outcome (owned (push [] (number 1) ∷ remove [] (codes "z") ∷ undo ∷ undo ∷ [])) a_is_1) ≡ codes "{\"replies\":[\"NotAnArray\",[],true,false],\"document\":{\"a\":1}}"
unfolding digits
nothing_undone = refl

-- [["reload_pp"],["remove",[],"a"],["reload"]] reads two texts
texts_reloaded : reloads (owned []) (begun (owned []) a_is_1) (reload_pp ∷ remove [] (codes "a") ∷ reload ∷ []) ≡ codes "{\n  \"a\": 1\n}" ∷ codes "{}" ∷ []
unfolding digits
texts_reloaded = refl

-- in the lazy form with its repeats
repeats_reread : reloads (lazy []) (begun (lazy []) repeated_key) (reload ∷ []) ≡ codes "{\"a\":1,\"a\":2}" ∷ []
unfolding digits
repeats_reread = refl

-- inverses bring back one base after the other, the newest first
two_bases : bases_from ((place 0 ∷ [], set_part (number 7)) ∷ ([], drop_item) ∷ []) (list (two (number 8) (number 9))) ≡ Some (list (two (number 7) (number 9)) ∷ list (one (number 7)) ∷ [])
two_bases = refl

no_bases : bases_from ((place 2 ∷ [], drop_item) ∷ []) (list (two (number 8) (number 9))) ≡ None
no_bases = refl

-- depth-limits
too_deep : text (outcome (job from_start 1 (push [] empty_list ∷ [])) empty_list) ≡ codes "{\"replies\":[\"TooDeep\"],\"document\":[]}"
too_deep = refl

-- insert-repeats
kept_value_inserted : text (outcome (owned (insert [] (codes "x") a_is_1 ∷ [])) empty_object) ≡ codes "{\"replies\":[[]],\"document\":{\"x\":{\"a\":1}}}"
unfolding digits
kept_value_inserted = refl

-- thirteen-commands, on {"a":[1,"x"],"b":null}
abbrev thirteen_commands : List Step
thirteen_commands =
    let a = key (codes "a") in
    contains [] (codes "b") ∷ contains (a ∷ []) (codes "b") ∷ type_of (a ∷ place 1 ∷ []) ∷ keys [] ∷ keys (a ∷ [])
    ∷ len (key (codes "b") ∷ []) ∷ pop (a ∷ []) ∷ remove [] (codes "b") ∷ remove [] (codes "b") ∷ set_at (a ∷ place 0 ∷ []) (decimal (codes "2.50"))
    ∷ type_of (a ∷ place 0 ∷ []) ∷ get (key (codes "z") ∷ []) ∷ len (key (codes "z") ∷ []) ∷ []

abbrev list_and_null : Tree
list_and_null = object (member (codes "a") (list (two (number 1) (word (codes "x")))) (member (codes "b") null no_members))

thirteen_replies : text (outcome (owned thirteen_commands) list_and_null) ≡ codes "{\"replies\":[true,false,\"string\",[\"a\",\"b\"],\"NotAnObject\",\"NotAContainer\",[\"x\"],[null],[],[1],\"decimal\",[],\"NoSuchPath\"],\"document\":{\"a\":[2.50]}}"
unfolding digits
thirteen_replies = refl

-- path, kind and depth are tested in this order
abbrev refused_writes : List Step
refused_writes =
    let a = key (codes "a") in
    let x = key (codes "x") in
    insert (a ∷ []) (codes "k") (list (one empty_list)) ∷ insert (x ∷ []) (codes "k") (number 1) ∷ set_at (a ∷ []) empty_list ∷ insert [] (codes "k") empty_list
    ∷ push (a ∷ []) empty_list ∷ []

refusals_in_order : text (outcome (job from_start 1 refused_writes) a_is_1) ≡ codes "{\"replies\":[\"NotAnObject\",\"NoSuchPath\",\"TooDeep\",\"TooDeep\",\"NotAnArray\"],\"document\":{\"a\":1}}"
unfolding digits
refusals_in_order = refl

-- a path that selects nothing, and a value of another kind
abbrev refused_commands : List Step
refused_commands =
    let a = key (codes "a") in
    let x = key (codes "x") in
    contains (x ∷ []) (codes "k") ∷ keys (x ∷ []) ∷ remove (x ∷ []) (codes "k") ∷ remove (a ∷ []) (codes "k") ∷ push (x ∷ []) (number 1)
    ∷ pop (x ∷ []) ∷ pop (a ∷ []) ∷ []

commands_refused : text (outcome (owned refused_commands) a_is_1) ≡ codes "{\"replies\":[\"NoSuchPath\",\"NoSuchPath\",\"NoSuchPath\",\"NotAnObject\",\"NoSuchPath\",\"NoSuchPath\",\"NotAnArray\"],\"document\":{\"a\":1}}"
unfolding digits
commands_refused = refl

-- the word of each type: [null,true,1,"",{}]
abbrev values_of_types : Tree
values_of_types = list (item null (item (boolean true) (item (number 1) (two (word []) empty_object))))

abbrev types_asked : List Step
types_asked = type_of (place 0 ∷ []) ∷ type_of (place 1 ∷ []) ∷ type_of (place 2 ∷ []) ∷ type_of (place 3 ∷ []) ∷ type_of (place 4 ∷ []) ∷ type_of (place 5 ∷ []) ∷ []

types_replied : text (outcome (owned types_asked) values_of_types) ≡ codes "{\"replies\":[\"null\",\"bool\",\"integer\",\"string\",\"object\",\"NoSuchPath\"],\"document\":[null,true,1,\"\",{}]}"
unfolding digits
types_replied = refl

-- the whole document may be set
abbrev set_and_pop : List Step
set_and_pop = set_at [] (list (two (number 1) (number 2))) ∷ type_of [] ∷ set_at (place 5 ∷ []) (number 0) ∷ pop [] ∷ []

whole_document_set : text (outcome (owned set_and_pop) empty_object) ≡ codes "{\"replies\":[[{}],\"array\",\"NoSuchPath\",[2]],\"document\":[1]}"
unfolding digits
whole_document_set = refl

-- what a write replaces is its reply, and the items close up
old_values_replied : text (outcome (owned (insert [] (codes "a") (boolean false) ∷ remove [] (codes "a") ∷ push [] null ∷ set_at [] empty_list ∷ push [] null ∷ pop [] ∷ pop [] ∷ [])) a_is_1) ≡ codes "{\"replies\":[[1],[false],\"NotAnArray\",[{}],[],[null],[]],\"document\":[]}"
unfolding digits
old_values_replied = refl

-- A write that finds nothing to remove counts, and a refused one doesn't. Its base is kept where repeats are dropped by writes.
bases_of_writes : (after (lazy []) (begun (lazy []) repeated_key) (remove [] (codes "b") ∷ push [] null ∷ remove [] (codes "a") ∷ [])) ≡ record { tree = empty_object; bases = a_is_1 ∷ a_is_1 ∷ [] }
bases_of_writes = refl

bases_of_owned : (after (owned []) (begun (owned []) a_is_1) (set_at [] null ∷ get [] ∷ set_at [] empty_list ∷ [])) ≡ record { tree = empty_list; bases = null ∷ a_is_1 ∷ [] }
bases_of_owned = refl

-- repeated keys that are refused, in any form

abbrev refusing : Keeping → List Step → Job
refusing keeping script = record { script = script; limit = 1024; keeping = keeping; repeats = refuses_repeats }

-- [7,{"a":[{"a":1,"a":2}],"a":7}]
abbrev repeats_inside : Tree
repeats_inside = list (two (number 7) (object (member (codes "a") (list (one repeated_key)) (member (codes "a") (number 7) no_members))))

repeats_named : text (tree_record (refusing from_write reload_len) repeats_inside) ≡ codes "{\"error\":\"RepeatedKey\",\"path\":[1,\"a\",0],\"key\":\"a\"}"
unfolding digits
repeats_named = refl

root_named : text (tree_record (refusing from_start []) repeated_key) ≡ codes "{\"error\":\"RepeatedKey\",\"path\":[],\"key\":\"a\"}"
root_named = refl

nothing_reread : rereads (refusing from_write reload_len) repeated_key ≡ []
nothing_reread = refl

nothing_repeated : text (tree_record (refusing from_start (len [] ∷ [])) a_is_1) ≡ codes "{\"replies\":[1],\"document\":{\"a\":1}}"
unfolding digits
nothing_repeated = refl

-- and that are kept
repeats_kept : tree_record (lazy reload_len) repeated_key ≡ outcome (lazy reload_len) repeated_key
repeats_kept = refl

-- lines that are no documents, and their records

blank_line : IsRecord (owned []) (codes " ") (codes "{\"error\":\"Eof\",\"index\":0,\"character\":null}")
unfolding digits is_utf8 chars encode_utf8
blank_line = inr (generic Eof, refl, refl)

unclosed_string : IsRecord (owned []) (codes "\"a") (codes "{\"error\":\"Syntax\",\"index\":0,\"character\":null}")
unfolding digits is_utf8 chars encode_utf8
unclosed_string = inr (generic Syntax, refl, refl)

no_value_behind_comma : IsRecord (owned []) (codes "[1,]") (codes "{\"error\":\"InternalError\",\"index\":3,\"character\":\"]\"}")
unfolding digits is_utf8 chars encode_utf8 value
no_value_behind_comma = inr (record { error = InternalError; index = 3; character = Some 0x5d }, refl, refl)

backslash_at_root : IsRecord (owned []) (codes "\\\"") (codes "{\"error\":\"InternalError\",\"index\":0,\"character\":\"\\\\\"}")
unfolding digits is_utf8 chars encode_utf8 value
backslash_at_root = inr (record { error = InternalError; index = 0; character = Some 0x5c }, refl, refl)

true_before_a_quote : IsRecord (owned []) (codes "[true\"a\"]") (codes "{\"error\":\"ExpectedTrue\",\"index\":1,\"character\":\"t\"}")
unfolding digits is_utf8 chars encode_utf8 value
true_before_a_quote = inr (record { error = ExpectedTrue; index = 1; character = Some 0x74 }, refl, refl)

-- U+FEFF and a number: the byte at fault is EF, which is U+00EF as a character, in two bytes
byte_order_mark : IsRecord (owned []) (0xef ∷ 0xbb ∷ 0xbf ∷ codes "1") (codes "{\"error\":\"InternalError\",\"index\":0,\"character\":\"" ++ 0xc3 ∷ 0xaf ∷ codes "\"}")
unfolding digits is_utf8 chars encode_utf8 value
byte_order_mark = inr (record { error = InternalError; index = 0; character = Some 0xef }, refl, refl)
