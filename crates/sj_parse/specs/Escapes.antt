-- The first bad escape in the body of a string (RFC 8259, section 7).
use Rattle.std.specs.Prelude.{ℕ, zero, suc, Bool, not, ◌&&◌, ◌==◌, nat_le, if◌then◌else◌, List, [], ◌∷◌, length, take, drop, Option, Some, None, Result, Ok, Err, is_some, codes, bytes_eq}
use Rattle.std.specs.List.{list_all}
use Rattle.std.specs.Char.{is_ascii_hexdigit}
use Rattle.sj_base.specs.Characters.{short_character, hex_value}
use Rattle.sj_parse.specs.declared.descent_fault.DescentKind.{DescentKind}
use Rattle.sj_parse.specs.declared.descent_fault.Stop.{Stop}
use Rattle.sj_parse.specs.declared.descent_fault.DescentKind.TheVariants.{InvalidEscape, InvalidUnicodeEscape, InvalidUnicodeCodepoint}

-- a fault at that place
abbrev pub stop : DescentKind → ℕ → Stop
stop kind place = record { kind = kind; place = place }

-- four hexadecimal digits of either case
abbrev pub is_hex : List ℕ → Bool
is_hex ds = length ds == 4 && list_all is_ascii_hexdigit ds

abbrev pub is_high_surrogate : ℕ → Bool
is_high_surrogate n = nat_le 0xd800 n && nat_le n 0xdbff

abbrev pub is_low_surrogate : ℕ → Bool
is_low_surrogate n = nat_le 0xdc00 n && nat_le n 0xdfff

-- The bytes begin with `\u` and the digits of a low surrogate.
abbrev pub begins_with_low_surrogate : List ℕ → Bool
begins_with_low_surrogate bs =
    bytes_eq (take 2 bs) (codes "\\u") && is_hex (take 4 (drop 2 bs)) && is_low_surrogate (hex_value (take 4 (drop 2 bs)))

-- The length of an escape behind its backslash, in bytes, or what is wrong with it. These bytes begin behind `\u`.
abbrev pub unicode_escape : List ℕ → Result ℕ DescentKind
unicode_escape bs =
    if not (is_hex (take 4 bs)) then Err InvalidUnicodeEscape
    else (if is_high_surrogate (hex_value (take 4 bs))
    then (if begins_with_low_surrogate (drop 4 bs) then Ok 11 else Err InvalidUnicodeCodepoint)
    else (if is_low_surrogate (hex_value (take 4 bs)) then Err InvalidUnicodeCodepoint
    else Ok 5))

-- These bytes begin behind the backslash.
abbrev pub escape : List ℕ → Result ℕ DescentKind
escape [] = Err InvalidEscape
escape (letter ∷ bs) =
    if letter == 0x75 then unicode_escape bs
    else (if is_some (short_character letter) then Ok 1 else Err InvalidEscape)

-- goes on behind the escape, or stops at its backslash
abbrev pub past_escape : Result ℕ DescentKind → ℕ → (ℕ → Option Stop) → Option Stop
past_escape (Ok n) place rest = rest n
past_escape (Err kind) place rest = Some (stop kind place)

-- The first bad escape in a body that begins at the place; the first so many bytes belong to an escape before.
abbrev pub bad_escape_behind : ℕ → ℕ → List ℕ → Option Stop
bad_escape_behind n place [] = None
bad_escape_behind (suc n) place (b ∷ bs) = bad_escape_behind n (suc place) bs
bad_escape_behind zero place (b ∷ bs) =
    if b == 0x5c then past_escape (escape bs) place (λ n. bad_escape_behind n (suc place) bs)
    else bad_escape_behind zero (suc place) bs

abbrev pub bad_escape : ℕ → List ℕ → Option Stop
bad_escape place body = bad_escape_behind 0 place body
