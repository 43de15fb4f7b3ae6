-- The tests on all bytes of a text that a scan makes (RFC 8259, sections 7 and 8.1), in their order.
use Rattle.std.specs.Prelude.{◌≡◌, ℕ, Bool, not, ◌&&◌, if◌then◌else◌, nat_lt, List, [], ◌∷◌, reverse, slice_index, Option, Some, None, Result, Ok, Err, ⊤}
use Rattle.std.specs.List.{list_any}
use Rattle.std.specs.Str.{is_utf8}
use Rattle.sj_scan.specs.declared.stage1.ScanFault.{ScanFault}
use Rattle.sj_scan.specs.declared.stage1.ScanFault.TheVariants.{Utf8, Unclosed, Control, NoToken, Memory}
use Rattle.sj_scan.specs.Positions.{is_odd, real_quotes, is_in_body, before, places, positions}

-- Each string that is opened is closed: the real quotes are even in number.
abbrev pub is_closed : List ℕ → Bool
is_closed bytes = not (is_odd (real_quotes (reverse bytes)))

-- a byte below 0x20 in a string body
abbrev pub is_control : List ℕ → ℕ → Bool
is_control before b = nat_lt b 0x20 && is_in_body before b

abbrev pub is_control_at : List ℕ → ℕ → Bool
is_control_at bytes place = is_control (before bytes place) (slice_index bytes place)

abbrev pub has_control : List ℕ → Bool
has_control bytes = list_any (is_control_at bytes) (places bytes)

abbrev pub if_none : List ℕ → Option ScanFault
if_none [] = Some NoToken
if_none (place ∷ others) = None

-- the first test that the bytes fail
abbrev pub scan_fault : List ℕ → Option ScanFault
scan_fault bytes =
    if not (is_utf8 bytes) then Some Utf8
    else (if not (is_closed bytes) then Some Unclosed
    else (if has_control bytes then Some Control
    else if_none (positions bytes)))

-- What a fault says of the bytes. Lack of memory may come in place of any answer.
abbrev pub IsFirstFault : List ℕ → ScanFault → Type 0
IsFirstFault bytes Utf8 = scan_fault bytes ≡ Some Utf8
IsFirstFault bytes Unclosed = scan_fault bytes ≡ Some Unclosed
IsFirstFault bytes Control = scan_fault bytes ≡ Some Control
IsFirstFault bytes NoToken = scan_fault bytes ≡ Some NoToken
IsFirstFault bytes Memory = ⊤

-- what a scan answers, and the positions that it leaves: none after a fault
abbrev pub Scans : List ℕ → Result Unit ScanFault → List ℕ → Type 0
Scans bytes (Ok done) out = (scan_fault bytes ≡ None) × (out ≡ positions bytes)
Scans bytes (Err fault) out = IsFirstFault bytes fault × (out ≡ [])
