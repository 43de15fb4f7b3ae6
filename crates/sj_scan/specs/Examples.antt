-- Worked values: positions, and the first test that bytes fail.
use Rattle.std.specs.Prelude.{◌≡◌, refl, [], ◌∷◌, ◌++◌, codes, Some, None}
use Rattle.std.specs.List.{repeat}
use Rattle.std.specs.Char.{encode_utf8}
use Rattle.std.specs.Str.{chars, is_utf8}
use Rattle.sj_scan.specs.declared.stage1.ScanFault.TheVariants.{Utf8, Unclosed, Control, NoToken}
use Rattle.sj_scan.specs.Positions.{positions}
use Rattle.sj_scan.specs.Scan.{scan_fault}

-- `["a\"b", tru]`
escaped_quote : positions (codes "[\"a\\\"b\", tru]") ≡ 0 ∷ 1 ∷ 7 ∷ 9 ∷ 12 ∷ []
escaped_quote = refl

-- `"a"b`
behind_a_string : positions (codes "\"a\"b") ≡ 0 ∷ 3 ∷ []
behind_a_string = refl

-- `\"`: outside strings too a backslash keeps a quote from being real
backslash_outside : positions (codes "\\\"") ≡ 0 ∷ []
backslash_outside = refl

-- `"\\"`: two backslashes, so the quote after them is real
two_backslashes : positions (codes "\"\\\\\",") ≡ 0 ∷ 4 ∷ []
two_backslashes = refl

-- `[true"a"]`
quote_after_literal : positions (codes "[true\"a\"]") ≡ 0 ∷ 1 ∷ 5 ∷ 8 ∷ []
quote_after_literal = refl

-- a bracket inside a string is no position
bracket_in_string : positions (codes "[\"]\"]") ≡ 0 ∷ 1 ∷ 4 ∷ []
bracket_in_string = refl

-- `a"b"c`: a byte directly behind a real quote begins a token
quotes_inside_a_word : positions (codes "a\"b\"c") ≡ 0 ∷ 1 ∷ 4 ∷ []
quotes_inside_a_word = refl

-- `{"a":1,"a":2}`
members : positions (codes "{\"a\":1,\"a\":2}") ≡ 0 ∷ 1 ∷ 4 ∷ 5 ∷ 6 ∷ 7 ∷ 10 ∷ 11 ∷ 12 ∷ []
members = refl

-- `["`, 61 times `a`, `\\]"]`: the backslashes are bytes 63 and 64
backslashes_at_64 : positions (codes "[\"" ++ repeat 61 (codes "a") ++ codes "\\\\]\"]") ≡ 0 ∷ 1 ∷ 67 ∷ []
backslashes_at_64 = refl

-- `["`, 61 times `a`, `"b]`: the closing quote is byte 63
quote_at_63 : positions (codes "[\"" ++ repeat 61 (codes "a") ++ codes "\"b]") ≡ 0 ∷ 1 ∷ 64 ∷ 65 ∷ []
quote_at_63 = refl

-- `[`, 62 spaces, `12]`
spaces_up_to_62 : positions (codes "[" ++ repeat 62 (codes " ") ++ codes "12]") ≡ 0 ∷ 63 ∷ 65 ∷ []
spaces_up_to_62 = refl

no_positions : positions (codes " ") ≡ []
no_positions = refl

-- 22 FF
bad_utf8 : scan_fault (0x22 ∷ 0xff ∷ []) ≡ Some Utf8
unfolding is_utf8 chars encode_utf8
bad_utf8 = refl

-- `"a`
unclosed : scan_fault (codes "\"a") ≡ Some Unclosed
unfolding is_utf8 chars encode_utf8
unclosed = refl

-- `"`, 1F: unclosed and with a control character
unclosed_first : scan_fault (0x22 ∷ 0x1f ∷ []) ≡ Some Unclosed
unfolding is_utf8 chars encode_utf8
unclosed_first = refl

-- all three faults
utf8_first : scan_fault (0x22 ∷ 0x1f ∷ 0xff ∷ []) ≡ Some Utf8
unfolding is_utf8 chars encode_utf8
utf8_first = refl

control : scan_fault (0x22 ∷ 0x1f ∷ 0x22 ∷ []) ≡ Some Control
unfolding is_utf8 chars encode_utf8
control = refl

blank : scan_fault (codes " ") ≡ Some NoToken
unfolding is_utf8 chars encode_utf8
blank = refl

empty : scan_fault [] ≡ Some NoToken
unfolding is_utf8 chars encode_utf8
empty = refl

-- a line feed outside strings is whitespace
no_fault : scan_fault (codes "[\"a\",\n1]") ≡ None
unfolding is_utf8 chars encode_utf8
no_fault = refl
