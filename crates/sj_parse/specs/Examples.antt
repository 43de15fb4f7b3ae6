-- Worked values: the first fault of a text, and the carriers of its integers.
use Rattle.std.specs.Prelude.{◌≡◌, refl, codes, ℕ, min, pos, nat_lt, true, if◌then◌else◌, Option, Some, None, List, [], ◌∷◌, length, filter}
use Rattle.std.specs.Char.{encode_utf8}
use Rattle.std.specs.Str.{chars, is_utf8}
use Rattle.std.proofs.Common.{ap}
use Rattle.sj_base.specs.Spelling.{longest}
use Rattle.sj_base.specs.declared.error.Error.{Error}
use Rattle.sj_base.specs.declared.error.ErrorType.{ErrorType}
use Rattle.sj_base.specs.declared.error.ErrorType.TheVariants.{Eof, ExpectedArrayComma, ExpectedArrayContent, ExpectedFalse, ExpectedMapComma, ExpectedNull, ExpectedObjectColon, ExpectedObjectContent, ExpectedObjectKey, ExpectedTrue, InputTooLarge, InsufficientPadding, InternalError, InvalidEscape, InvalidNumber, InvalidUnicodeCodepoint, InvalidUnicodeEscape, InvalidUtf8, Syntax, TrailingData}
use Rattle.sj_base.specs.declared.static_node.StaticNode.TheVariants.{I64, U64}
use Rattle.sj_scan.specs.Positions.{positions}
use Rattle.sj_scan.specs.Scan.{scan_fault}
use Rattle.sj_tape.specs.declared.node.Node.TheVariants.{Array, Static}
use Rattle.sj_parse.specs.Descent.{value}
use Rattle.sj_parse.specs.Fault.{fault, fault_behind, generic, padded_fault}
use Rattle.sj_parse.specs.Nodes.{makes_node, HaveCarriers}
use Rattle.sj_parse.specs.Token.{tokens}

-- a text of more than 4294967295 bytes, whatever they are
too_large : (bytes : List ℕ) (limit : ℕ) → nat_lt longest (length bytes) ≡ true → fault bytes limit ≡ Some (generic InputTooLarge)
too_large bytes limit long = ap (λ b. if b then Some (generic InputTooLarge) else fault_behind bytes limit (scan_fault bytes)) long

padded_too_large : padded_fault (codes "1") 4294967296 1024 ≡ Some (generic InputTooLarge)
padded_too_large = refl

-- an integer with a minus is an `I64`, and no `U64`
minus_zero_is_signed : HaveCarriers (tokens (codes "[-0]")) (Array 1 1 ∷ Static (I64 (pos 0)) ∷ [])
minus_zero_is_signed = (tt, (refl, tt))

minus_zero_is_not_unsigned : HaveCarriers (tokens (codes "[-0]")) (Array 1 1 ∷ Static (U64 0) ∷ []) → ⊥
minus_zero_is_not_unsigned carriers = carriers.1.0 refl

whitespace_alone : fault (codes " ") 1024 ≡ Some (generic Eof)
unfolding is_utf8 chars encode_utf8 value
whitespace_alone = refl

unclosed_string : fault (codes "\"a") 1024 ≡ Some (generic Syntax)
unfolding is_utf8 chars encode_utf8 value
unclosed_string = refl

no_value : fault (codes ":") 1024 ≡ Some (record { error = InternalError; index = 0; character = Some 0x3a })
unfolding is_utf8 chars encode_utf8 value
no_value = refl

no_value_behind_colon : fault (codes "{\"a\":]") 1024 ≡ Some (record { error = InternalError; index = 5; character = Some 0x5d })
unfolding is_utf8 chars encode_utf8 value
no_value_behind_colon = refl

no_value_behind_comma : fault (codes "[1,]") 1024 ≡ Some (record { error = InternalError; index = 3; character = Some 0x5d })
unfolding is_utf8 chars encode_utf8 value
no_value_behind_comma = refl

backslash_at_root : fault (codes "\\\"") 1024 ≡ Some (record { error = InternalError; index = 0; character = Some 0x5c })
unfolding is_utf8 chars encode_utf8 value
backslash_at_root = refl

too_deep_list : fault (codes "[[]]") 1 ≡ Some (record { error = Syntax; index = 1; character = Some 0x5b })
unfolding is_utf8 chars encode_utf8 value
too_deep_list = refl

too_deep_object : fault (codes "{}") 0 ≡ Some (record { error = Syntax; index = 0; character = Some 0x7b })
unfolding is_utf8 chars encode_utf8 value
too_deep_object = refl

array_content : fault (codes "[,") 1024 ≡ Some (record { error = ExpectedArrayContent; index = 1; character = Some 0x2c })
unfolding is_utf8 chars encode_utf8 value
array_content = refl

object_content : fault (codes "{1") 1024 ≡ Some (record { error = ExpectedObjectContent; index = 1; character = Some 0x31 })
unfolding is_utf8 chars encode_utf8 value
object_content = refl

object_key : fault (codes "{\"a\":1,}") 1024 ≡ Some (record { error = ExpectedObjectKey; index = 7; character = Some 0x7d })
unfolding is_utf8 chars encode_utf8 value
object_key = refl

object_colon : fault (codes "{\"a\" 1}") 1024 ≡ Some (record { error = ExpectedObjectColon; index = 5; character = Some 0x31 })
unfolding is_utf8 chars encode_utf8 value
object_colon = refl

array_comma : fault (codes "[\"a\"b]") 1024 ≡ Some (record { error = ExpectedArrayComma; index = 4; character = Some 0x62 })
unfolding is_utf8 chars encode_utf8 value
array_comma = refl

map_comma : fault (codes "{\"a\":1 2}") 1024 ≡ Some (record { error = ExpectedMapComma; index = 7; character = Some 0x32 })
unfolding is_utf8 chars encode_utf8 value
map_comma = refl

cut_in_object : fault (codes "{\"a\":[1") 1024 ≡ Some (record { error = Syntax; index = 6; character = Some 0x31 })
unfolding is_utf8 chars encode_utf8 value
cut_in_object = refl

cut_behind_comma : fault (codes "[1,") 1024 ≡ Some (record { error = Syntax; index = 2; character = Some 0x2c })
unfolding is_utf8 chars encode_utf8 value
cut_behind_comma = refl

not_true : fault (codes "time") 1024 ≡ Some (record { error = ExpectedTrue; index = 0; character = Some 0x74 })
unfolding is_utf8 chars encode_utf8 value
not_true = refl

not_false : fault (codes "[true, falsy]") 1024 ≡ Some (record { error = ExpectedFalse; index = 7; character = Some 0x66 })
unfolding is_utf8 chars encode_utf8 value
not_false = refl

not_null : fault (codes "[null, new]") 1024 ≡ Some (record { error = ExpectedNull; index = 7; character = Some 0x6e })
unfolding is_utf8 chars encode_utf8 value
not_null = refl

true_before_a_quote : fault (codes "[true\"a\"]") 1024 ≡ Some (record { error = ExpectedTrue; index = 1; character = Some 0x74 })
unfolding is_utf8 chars encode_utf8 value
true_before_a_quote = refl

leading_zero : fault (codes "[01]") 1024 ≡ Some (record { error = InvalidNumber; index = 1; character = Some 0x30 })
unfolding is_utf8 chars encode_utf8 value
leading_zero = refl

number_before_a_quote : fault (codes "[1\"a\"]") 1024 ≡ Some (record { error = InvalidNumber; index = 1; character = Some 0x31 })
unfolding is_utf8 chars encode_utf8 value
number_before_a_quote = refl

above_the_range : fault (codes "[18446744073709551616]") 1024 ≡ None
unfolding is_utf8 chars encode_utf8 value
above_the_range = refl

below_the_range : fault (codes "[-9223372036854775809]") 1024 ≡ None
unfolding is_utf8 chars encode_utf8 value
below_the_range = refl

unknown_escape : fault (codes "[\"a\\qb\"]") 1024 ≡ Some (record { error = InvalidEscape; index = 3; character = Some 0x5c })
unfolding is_utf8 chars encode_utf8 value
unknown_escape = refl

bad_unicode_escape : fault (codes "[\"\\u12G4\"]") 1024 ≡ Some (record { error = InvalidUnicodeEscape; index = 2; character = Some 0x5c })
unfolding is_utf8 chars encode_utf8 value
bad_unicode_escape = refl

short_unicode_escape : fault (codes "[\"\\u12\"]") 1024 ≡ Some (record { error = InvalidUnicodeEscape; index = 2; character = Some 0x5c })
unfolding is_utf8 chars encode_utf8 value
short_unicode_escape = refl

lone_high_surrogate : fault (codes "[\"\\ud83d\"]") 1024 ≡ Some (record { error = InvalidUnicodeCodepoint; index = 2; character = Some 0x5c })
unfolding is_utf8 chars encode_utf8 value
lone_high_surrogate = refl

lone_low_surrogate : fault (codes "[\"\\ude00\"]") 1024 ≡ Some (record { error = InvalidUnicodeCodepoint; index = 2; character = Some 0x5c })
unfolding is_utf8 chars encode_utf8 value
lone_low_surrogate = refl

high_before_bad_digits : fault (codes "[\"\\ud83d\\uzzzz\"]") 1024 ≡ Some (record { error = InvalidUnicodeCodepoint; index = 2; character = Some 0x5c })
unfolding is_utf8 chars encode_utf8 value
high_before_bad_digits = refl

bad_escape_in_key : fault (codes "{\"\\q\":1}") 1024 ≡ Some (record { error = InvalidEscape; index = 2; character = Some 0x5c })
unfolding is_utf8 chars encode_utf8 value
bad_escape_in_key = refl

tokens_behind_scalar : fault (codes "1 2") 1024 ≡ Some (record { error = TrailingData; index = 0; character = Some 0x31 })
unfolding is_utf8 chars encode_utf8 value
tokens_behind_scalar = refl

tokens_behind_container : fault (codes "[] 1") 1024 ≡ Some (record { error = InternalError; index = 1; character = Some 0x5d })
unfolding is_utf8 chars encode_utf8 value
tokens_behind_container = refl

bad_utf8 : fault (0x22 ∷ 0xff ∷ []) 1024 ≡ Some (generic InvalidUtf8)
unfolding is_utf8 chars encode_utf8 value
bad_utf8 = refl

control_in_string : fault (0x22 ∷ 0x1f ∷ 0x22 ∷ []) 1024 ≡ Some (generic Syntax)
unfolding is_utf8 chars encode_utf8 value
control_in_string = refl

scalar_under_no_level : fault (codes "7") 0 ≡ None
unfolding is_utf8 chars encode_utf8 value
scalar_under_no_level = refl

escapes : fault (codes "[\"\\\"\\\\\\/\\b\\f\\n\\r\\t\\u001F\\ud83d\\ude00\"]") 1024 ≡ None
unfolding is_utf8 chars encode_utf8 value
escapes = refl

ends_of_the_range : fault (codes "[18446744073709551615,-9223372036854775808]") 1 ≡ None
unfolding is_utf8 chars encode_utf8 value
ends_of_the_range = refl

minus_zero : fault (codes "[-0, 1.50]") 1 ≡ None
unfolding is_utf8 chars encode_utf8 value
minus_zero = refl

nested : fault (codes "{\"a\":[1,{}],\"b\":[]}") 3 ≡ None
unfolding is_utf8 chars encode_utf8 value
nested = refl

abbrev at : ErrorType → ℕ → ℕ → Option Error
at kind index byte = Some (record { error = kind; index = index; character = Some byte })

no_bytes : (fault [] 1024 ∷ padded_fault (codes "1") 1 1024 ∷ []) ≡ (Some (generic Eof) ∷ Some (generic InsufficientPadding) ∷ [])
unfolding is_utf8 chars encode_utf8 value
no_bytes = refl

no_json : (fault (codes ".5") 1024 ∷ fault (codes "+1") 1024 ∷ fault (0xc3 ∷ 0xa9 ∷ []) 1024 ∷ fault (0xef ∷ 0xbb ∷ 0xbf ∷ 0x31 ∷ []) 1024 ∷ [])
    ≡ (at InternalError 0 0x2e ∷ at InternalError 0 0x2b ∷ at InternalError 0 0xc3 ∷ at InternalError 0 0xef ∷ [])
unfolding is_utf8 chars encode_utf8 value
no_json = refl

cut_short : (fault (codes "[") 1024 ∷ fault (codes "{") 1024 ∷ fault (codes "[[]") 1024 ∷ fault (codes "{\"a\"") 1024 ∷ fault (codes "{\"a\":") 1024 ∷ fault (codes "{\"a\":1,") 1024 ∷ fault (codes "[\"a") 1024 ∷ [])
    ≡ (at Syntax 0 0x5b ∷ at Syntax 0 0x7b ∷ at Syntax 2 0x5d ∷ at Syntax 1 0x22 ∷ at Syntax 4 0x3a ∷ at Syntax 6 0x2c ∷ Some (generic Syntax) ∷ [])
unfolding is_utf8 chars encode_utf8 value
cut_short = refl

-- at the last token of the root
behind_the_root : (fault (codes "\"a\"b") 1024 ∷ fault (codes "{} 1") 1024 ∷ []) ≡ (at TrailingData 0 0x22 ∷ at InternalError 1 0x7d ∷ [])
unfolding is_utf8 chars encode_utf8 value
behind_the_root = refl

levels : (fault (codes "[]") 0 ∷ fault (codes "[]") 1 ∷ fault (codes "{\"a\":[]}") 1 ∷ fault (codes "{\"a\":[]}") 2 ∷ []) ≡ (at Syntax 0 0x5b ∷ None ∷ at Syntax 5 0x5b ∷ None ∷ [])
unfolding is_utf8 chars encode_utf8 value
levels = refl

no_numbers : (fault (codes "-") 1024 ∷ fault (codes "-01") 1024 ∷ fault (codes "1.") 1024 ∷ fault (codes "1e") 1024 ∷ fault (codes "1e+") 1024 ∷ [])
    ≡ (at InvalidNumber 0 0x2d ∷ at InvalidNumber 0 0x2d ∷ at InvalidNumber 0 0x31 ∷ at InvalidNumber 0 0x31 ∷ at InvalidNumber 0 0x31 ∷ [])
unfolding is_utf8 chars encode_utf8 value
no_numbers = refl

numbers : (fault (codes "1E+5") 0 ∷ fault (codes "-0e0") 0 ∷ []) ≡ (None ∷ None ∷ [])
unfolding is_utf8 chars encode_utf8 value
numbers = refl

in_members : (fault (codes "{\"1\":time}") 1024 ∷ fault (codes "{\"\\q\" 1}") 1024 ∷ fault (codes "{\"\":1}") 1024 ∷ []) ≡ (at ExpectedTrue 5 0x74 ∷ at InvalidEscape 2 0x5c ∷ None ∷ [])
unfolding is_utf8 chars encode_utf8 value
in_members = refl

-- the positions of a text, the nodes that its tokens make, and the room of the stack under a limit of 2 levels
counts : (length (positions (codes "[1,[2,3],4]")) ∷ length (filter makes_node (tokens (codes "[1,[2,3],4]"))) ∷ min 2 (length (positions (codes "[1,[2,3],4]"))) ∷ []) ≡ (11 ∷ 6 ∷ 2 ∷ [])
counts = refl
