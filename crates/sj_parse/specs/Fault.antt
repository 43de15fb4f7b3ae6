-- The first fault of a text: the tests on all its bytes, and then the descent over its tokens.
use Rattle.std.specs.Prelude.{ℕ, ◌+◌, nat_lt, if◌then◌else◌, List, length, take, slice_index, Option, Some, None}
use Rattle.sj_base.specs.Spelling.{longest}
use Rattle.sj_base.specs.declared.error.Error.{Error}
use Rattle.sj_base.specs.declared.error.ErrorType.{ErrorType}
use Rattle.sj_base.specs.declared.error.ErrorType.TheVariants.{InputTooLarge, InsufficientPadding, InvalidUtf8, Eof, OutOfMemory, Syntax, InternalError, ExpectedArrayContent, ExpectedObjectContent, ExpectedObjectKey, ExpectedObjectColon, ExpectedArrayComma, ExpectedMapComma, ExpectedTrue, ExpectedFalse, ExpectedNull, InvalidNumber, InvalidEscape, InvalidUnicodeEscape, InvalidUnicodeCodepoint, TrailingData}
use Rattle.sj_scan.specs.Scan.{scan_fault}
use Rattle.sj_scan.specs.declared.stage1.ScanFault.{ScanFault}
use Rattle.sj_scan.specs.declared.stage1.ScanFault.TheVariants.{Utf8, Unclosed, Control, NoToken, Memory}
use Rattle.sj_parse.specs.Token.{tokens}
use Rattle.sj_parse.specs.declared.descent_fault.DescentKind.{DescentKind}
use Rattle.sj_parse.specs.declared.descent_fault.DescentKind.TheVariants as kind
use Rattle.sj_parse.specs.declared.descent_fault.DescentFault.{DescentFault}
use Rattle.sj_parse.specs.declared.descent_fault.Stop.{Stop}
use Rattle.sj_parse.specs.Descent.{descent}

-- an error about no byte
abbrev pub generic : ErrorType → Error
generic kind = record { error = kind; index = 0; character = None }

abbrev pub scan_kind : ScanFault → ErrorType
scan_kind Utf8 = InvalidUtf8
scan_kind Unclosed = Syntax
scan_kind Control = Syntax
scan_kind NoToken = Eof
scan_kind Memory = OutOfMemory

-- the kind of the same name
abbrev pub error_type : DescentKind → ErrorType
error_type kind.InternalError = InternalError
error_type kind.Syntax = Syntax
error_type kind.ExpectedArrayContent = ExpectedArrayContent
error_type kind.ExpectedObjectContent = ExpectedObjectContent
error_type kind.ExpectedObjectKey = ExpectedObjectKey
error_type kind.ExpectedObjectColon = ExpectedObjectColon
error_type kind.ExpectedArrayComma = ExpectedArrayComma
error_type kind.ExpectedMapComma = ExpectedMapComma
error_type kind.ExpectedTrue = ExpectedTrue
error_type kind.ExpectedFalse = ExpectedFalse
error_type kind.ExpectedNull = ExpectedNull
error_type kind.InvalidNumber = InvalidNumber
error_type kind.InvalidEscape = InvalidEscape
error_type kind.InvalidUnicodeEscape = InvalidUnicodeEscape
error_type kind.InvalidUnicodeCodepoint = InvalidUnicodeCodepoint
error_type kind.TrailingData = TrailingData

-- the error that says the same as a fault of the descent
abbrev pub descent_error : DescentFault → Error
descent_error f = record { error = error_type f.kind; index = f.index; character = Some f.byte }

-- The character is the text's own byte, as a character.
abbrev pub stop_error : List ℕ → Stop → Error
stop_error bytes s = record { error = error_type s.kind; index = s.place; character = Some (slice_index bytes s.place) }

abbrev pub stop_fault : List ℕ → Option Stop → Option Error
stop_fault bytes None = None
stop_fault bytes (Some s) = Some (stop_error bytes s)

-- the fault of a scan, or else that of the descent
abbrev pub fault_behind : List ℕ → ℕ → Option ScanFault → Option Error
fault_behind bytes limit (Some f) = Some (generic (scan_kind f))
fault_behind bytes limit None = stop_fault bytes (descent (tokens bytes) limit)

-- the first fault of a text under that limit of levels, or none
abbrev pub fault : List ℕ → ℕ → Option Error
fault bytes limit =
    if nat_lt longest (length bytes) then Some (generic InputTooLarge)
    else fault_behind bytes limit (scan_fault bytes)

-- `INPUT_PADDING`, in bytes
abbrev pub padding : ℕ
padding = 64

-- the first fault of the first `len` bytes, where padding has to stand behind them
abbrev pub padded_fault : List ℕ → ℕ → ℕ → Option Error
padded_fault bytes len limit =
    if nat_lt longest len then Some (generic InputTooLarge)
    else (if nat_lt (length bytes) (len + padding) then Some (generic InsufficientPadding)
    else fault (take len bytes) limit)
