-- Worked values of the definitions that compute. Those of the relations stand in proofs/Spelled.antt.
use Rattle.std.specs.Prelude.{◌≡◌, refl, pos, negsuc, true, false, [], ◌∷◌, ◌++◌, codes, Some, None}
use Rattle.std.specs.Fmt.{digits}
use Rattle.std.specs.Str.Parse.{digits_value}
use Rattle.sj_base.specs.declared.static_node.StaticNode.TheVariants.{I64, U64}
use Rattle.sj_base.specs.Tree.{Tree, null, integer, decimal, string, list, object, Items, no_items, item, Members, no_members, member, depth}
use Rattle.sj_base.specs.Number.{signed}
use Rattle.sj_base.specs.Characters.{short_character, hex_value, pair, form_character}
use Rattle.sj_base.specs.Scalar.{static_tree}
use Rattle.sj_base.specs.Keep.{keep}
use Rattle.sj_base.specs.Path.{key, place, at, put}
use Rattle.sj_base.specs.Alike.{alike}
use Rattle.sj_base.specs.Edit.{put_member, drop_member, push_item, last_item, pop_item}
use Rattle.sj_base.specs.Layout.{compact_key}
use Rattle.sj_base.specs.Text.{text, pretty}

-- {"a":1,"a":2}
abbrev repeats : Tree
repeats = object (member (codes "a") (integer (pos 1)) (member (codes "a") (integer (pos 2)) no_members))

-- {"a":[1,{}],"b":[]}
abbrev nested : Tree
nested = object (member (codes "a") (list (item (integer (pos 1)) (item (object no_members) no_items))) (member (codes "b") (list no_items) no_members))

scalar_depth : depth (integer (pos 7)) ≡ 0
scalar_depth = refl

nested_depth : depth nested ≡ 3
nested_depth = refl

kept : text (keep repeats) ≡ codes "{\"a\":1}"
unfolding digits
kept = refl

kept_within : text (keep (list (item repeats no_items))) ≡ codes "[{\"a\":1}]"
unfolding digits
kept_within = refl

first_of_two : at repeats (key (codes "a") ∷ []) ≡ Some (integer (pos 1))
first_of_two = refl

item_of_list : at nested (key (codes "a") ∷ place 0 ∷ []) ≡ Some (integer (pos 1))
item_of_list = refl

past_the_end : at nested (key (codes "a") ∷ place 2 ∷ []) ≡ None
past_the_end = refl

place_in_object : at nested (place 0 ∷ []) ≡ None
place_in_object = refl

the_whole : at nested [] ≡ Some nested
the_whole = refl

replaced : text (put nested (key (codes "a") ∷ place 1 ∷ []) null) ≡ codes "{\"a\":[1,null],\"b\":[]}"
unfolding digits
replaced = refl

-- one string: the eight characters with a short escape, but for the solidus raw, then U+001F and U+007F
escapes : text (string (0x22 ∷ 0x5c ∷ 0x2f ∷ 0x08 ∷ 0x0c ∷ 0x0a ∷ 0x0d ∷ 0x09 ∷ 0x1f ∷ 0x7f ∷ [])) ≡ 0x22 ∷ (codes "\\\"\\\\/\\b\\f\\n\\r\\t\\u001f" ++ 0x7f ∷ 0x22 ∷ [])
escapes = refl

numbers : text (list (item (integer (negsuc 9223372036854775807)) (item (integer (pos 18446744073709551615)) (item (decimal (codes "1.50")) no_items)))) ≡ codes "[-9223372036854775808,18446744073709551615,1.50]"
unfolding digits
numbers = refl

pretty_nested : pretty nested ≡ codes "{\n  \"a\": [\n    1,\n    {}\n  ],\n  \"b\": []\n}"
unfolding digits
pretty_nested = refl

-- the letters of the short escapes
quote_letter : short_character 0x22 ≡ Some 0x22
quote_letter = refl

backslash_letter : short_character 0x5c ≡ Some 0x5c
backslash_letter = refl

solidus_letter : short_character 0x2f ≡ Some 0x2f
solidus_letter = refl

backspace_letter : short_character 0x62 ≡ Some 0x08
backspace_letter = refl

form_feed_letter : short_character 0x66 ≡ Some 0x0c
form_feed_letter = refl

line_feed_letter : short_character 0x6e ≡ Some 0x0a
line_feed_letter = refl

carriage_return_letter : short_character 0x72 ≡ Some 0x0d
carriage_return_letter = refl

tab_letter : short_character 0x74 ≡ Some 0x09
tab_letter = refl

other_letter : short_character 0x71 ≡ None
other_letter = refl

hex_of_either_case : hex_value (codes "d83D") ≡ 0xd83d
hex_of_either_case = refl

surrogate_pair : form_character (pair (codes "d83d") (codes "de00")) ≡ 0x1f600
surrogate_pair = refl

minus_zero : signed true (digits_value 10 (codes "0")) ≡ pos 0
minus_zero = refl

nul_text : text (string (0x00 ∷ [])) ≡ codes "\"\\u0000\""
nul_text = refl

control_text : text (string (0x10 ∷ [])) ≡ codes "\"\\u0010\""
control_text = refl

pretty_empty_list : pretty (list no_items) ≡ codes "[]"
pretty_empty_list = refl

pretty_empty_object : pretty (object no_members) ≡ codes "{}"
pretty_empty_object = refl

pretty_scalar : pretty (integer (pos 7)) ≡ codes "7"
unfolding digits
pretty_scalar = refl

empty_list_depth : depth (list no_items) ≡ 1
empty_list_depth = refl

-- {"a":1,"b":2,"a":3}
abbrev late_repeat : Tree
late_repeat = object (member (codes "a") (integer (pos 1)) (member (codes "b") (integer (pos 2)) (member (codes "a") (integer (pos 3)) no_members)))

kept_in_order : text (keep late_repeat) ≡ codes "{\"a\":1,\"b\":2}"
unfolding digits
kept_in_order = refl

-- {"x":{"a":1,"a":2}}
kept_in_a_member : text (keep (object (member (codes "x") repeats no_members))) ≡ codes "{\"x\":{\"a\":1}}"
unfolding digits
kept_in_a_member = refl

key_in_list : at (list (item null no_items)) (key (codes "a") ∷ []) ≡ None
key_in_list = refl

put_at_nothing : put nested (key (codes "c") ∷ []) null ≡ nested
put_at_nothing = refl

put_at_first_of_two : text (put repeats (key (codes "a") ∷ []) null) ≡ codes "{\"a\":null,\"a\":2}"
unfolding digits
put_at_first_of_two = refl

same_scalar : static_tree (I64 (pos 5)) ≡ static_tree (U64 5)
same_scalar = refl

-- "a":1,"b":2 and "b":2,"a":1
abbrev two_members : Members
two_members = member (codes "a") (integer (pos 1)) (member (codes "b") (integer (pos 2)) no_members)

abbrev other_order : Members
other_order = member (codes "b") (integer (pos 2)) (member (codes "a") (integer (pos 1)) no_members)

order_of_members : alike (list (item (object two_members) no_items)) (list (item (object other_order) no_items)) ≡ true
order_of_members = refl

order_of_items : alike (list (item null (item nested no_items))) (list (item nested (item null no_items))) ≡ false
order_of_items = refl

fewer_items : alike (list no_items) (list (item null no_items)) ≡ false
fewer_items = refl

-- {"a":1} has no "b".
key_left_out : alike (object (drop_member two_members (codes "b"))) (object two_members) ≡ false
key_left_out = refl

key_added : alike (object two_members) (object (drop_member two_members (codes "b"))) ≡ false
key_added = refl

other_key : alike (object (member (codes "a") null no_members)) (object (member (codes "b") null no_members)) ≡ false
other_key = refl

other_value : alike (object two_members) (object (put_member two_members (codes "b") null)) ≡ false
other_value = refl

-- 1.50 and 1.5 are two literals.
literals_by_text : alike (decimal (codes "1.50")) (decimal (codes "1.5")) ≡ false
literals_by_text = refl

sign_of_integer : alike (integer (pos 1)) (integer (negsuc 0)) ≡ false
sign_of_integer = refl

-- The second member of {"a":1,"a":2} finds the first. So a tree that isn't kept need not be alike to itself.
repeated_key : alike repeats repeats ≡ false
repeated_key = refl

empty_containers : alike (list no_items) (object no_members) ≡ false
empty_containers = refl

put_in_place : text (object (put_member two_members (codes "a") null)) ≡ codes "{\"a\":null,\"b\":2}"
unfolding digits
put_in_place = refl

put_at_the_end : text (object (put_member two_members (codes "c") null)) ≡ codes "{\"a\":1,\"b\":2,\"c\":null}"
unfolding digits
put_at_the_end = refl

dropped : text (object (drop_member two_members (codes "a"))) ≡ codes "{\"b\":2}"
unfolding digits
dropped = refl

nothing_dropped : drop_member two_members (codes "c") ≡ two_members
nothing_dropped = refl

-- [1,2]
abbrev two_items : Items
two_items = item (integer (pos 1)) (item (integer (pos 2)) no_items)

pushed : text (list (push_item two_items null)) ≡ codes "[1,2,null]"
unfolding digits
pushed = refl

last_of_two : last_item two_items ≡ Some (integer (pos 2))
last_of_two = refl

popped : text (list (pop_item two_items)) ≡ codes "[1]"
unfolding digits
popped = refl

no_last : last_item no_items ≡ None
no_last = refl

nothing_popped : pop_item no_items ≡ no_items
nothing_popped = refl

key_behind_another : compact_key true (codes "a") ≡ codes ",\"a\":"
key_behind_another = refl

first_key : compact_key false (codes "a") ≡ codes "\"a\":"
first_key = refl
