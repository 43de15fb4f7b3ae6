-- Worked values of typed reads.
use Rattle.std.specs.Prelude.{◌≡◌, ◌^◌, refl, pos, negsuc, true, Some, None, Ok, Err, codes}
use Rattle.sj_base.specs.Tree.{null, boolean, integer, decimal, string}
use Rattle.sj_base.specs.declared.static_node.ValueType.TheVariants as types
use Rattle.sj_reads.specs.Member.{Seen, looked_up, try_found}
use Rattle.sj_reads.specs.Reads.{null_read, bool_read, str_read, decimal_read, signed_read, unsigned_read, mismatch}

bool_of_bool : bool_read (Some (boolean true)) ≡ Some true
bool_of_bool = refl

null_is_no_bool : bool_read (Some null) ≡ None
null_is_no_bool = refl

null_of_null : null_read (Some null) ≡ Some tt
null_of_null = refl

nothing_of_container : null_read None ≡ None
nothing_of_container = refl

text_of_string : str_read (Some (string (codes "1"))) ≡ Some (codes "1")
text_of_string = refl

string_is_no_number : unsigned_read 64 (Some (string (codes "1"))) ≡ None
string_is_no_number = refl

literal_is_kept : decimal_read (Some (decimal (codes "1.50"))) ≡ Some (codes "1.50")
literal_is_kept = refl

integer_is_no_decimal : decimal_read (Some (integer (pos 1))) ≡ None
integer_is_no_decimal = refl

decimal_is_no_integer : signed_read 63 (Some (decimal (codes "1e0"))) ≡ None
decimal_is_no_integer = refl

-- u8 and i8; `negsuc n` is -(n + 1)
largest_u8 : unsigned_read 8 (Some (integer (pos 255))) ≡ Some 255
largest_u8 = refl

too_large_for_u8 : unsigned_read 8 (Some (integer (pos 256))) ≡ None
too_large_for_u8 = refl

negative_for_u8 : unsigned_read 8 (Some (integer (negsuc 0))) ≡ None
negative_for_u8 = refl

largest_i8 : signed_read 7 (Some (integer (pos 127))) ≡ Some (pos 127)
largest_i8 = refl

too_large_for_i8 : signed_read 7 (Some (integer (pos 128))) ≡ None
too_large_for_i8 = refl

smallest_i8 : signed_read 7 (Some (integer (negsuc 127))) ≡ Some (negsuc 127)
smallest_i8 = refl

too_small_for_i8 : signed_read 7 (Some (integer (negsuc 128))) ≡ None
too_small_for_i8 = refl

negative_for_u128 : unsigned_read 128 (Some (integer (negsuc 0))) ≡ None
negative_for_u128 = refl

too_large_for_i64 : signed_read 63 (Some (integer (pos (2 ^ 63)))) ≡ None
too_large_for_i64 = refl

fits_u64 : unsigned_read 64 (Some (integer (pos (2 ^ 63)))) ≡ Some (2 ^ 63)
fits_u64 = refl

-- a member that is `true`
abbrev member : Seen
member = record { kind = types.Bool; scalar = Some (boolean true) }

member_found : try_found bool_read types.Bool (looked_up types.Object (Some member)) ≡ Ok (Some true)
member_found = refl

no_member : try_found bool_read types.Bool (looked_up types.Object None) ≡ Ok None
no_member = refl

member_of_other_type : try_found str_read types.String (looked_up types.Object (Some member)) ≡ Err (mismatch types.String types.Bool)
member_of_other_type = refl

-- The type that was met may be the one that is named as expected.
too_large_member : try_found (unsigned_read 8) types.U64 (looked_up types.Object (Some (record { kind = types.U64; scalar = Some (integer (pos 256)) }))) ≡ Err (mismatch types.U64 types.U64)
too_large_member = refl

container_member : try_found str_read types.String (looked_up types.Object (Some (record { kind = types.Array; scalar = None }))) ≡ Err (mismatch types.String types.Array)
container_member = refl

key_of_array : try_found bool_read types.Bool (looked_up types.Array None) ≡ Err (mismatch types.Object types.Array)
key_of_array = refl
