-- The descent over the tokens of a text: the first fault that it meets (RFC 8259, sections 2 to 9).
use Rattle.std.specs.Prelude.{ℕ, zero, suc, Bool, ◌||◌, ◌==◌, if◌then◌else◌, List, [], ◌∷◌, length, Option, Some, None, Result, Ok, Err, codes, bytes_eq}
use Rattle.std.specs.Char.{is_ascii_digit}
use Rattle.sj_parse.specs.declared.descent_fault.DescentKind.{DescentKind}
use Rattle.sj_parse.specs.declared.descent_fault.DescentKind.TheVariants.{InternalError, Syntax, ExpectedArrayContent, ExpectedObjectContent, ExpectedObjectKey, ExpectedObjectColon, ExpectedArrayComma, ExpectedMapComma, ExpectedTrue, ExpectedFalse, ExpectedNull, InvalidNumber, TrailingData}
use Rattle.sj_parse.specs.Token.{Token}
use Rattle.sj_parse.specs.declared.descent_fault.Stop.{Stop}
use Rattle.sj_parse.specs.Escapes.{stop, bad_escape}
use Rattle.sj_base.specs.NumberTests.{is_number}

-- the place of the token that was read last, and the tokens that are left
pub record Left : Type 0 where
  pub last : ℕ
  pub tokens : List Token

abbrev pub left : ℕ → List Token → Left
left last ts = record { last = last; tokens = ts }

-- What reads a part of a document: from the place of the token read last and the tokens that are left.
abbrev pub Reader : Type 0
Reader = ℕ → List Token → Result Left Stop

-- one part after the other
abbrev pub then_read : Result Left Stop → Reader → Result Left Stop
then_read (Ok l) read = read l.last l.tokens
then_read (Err s) read = Err s

-- Where no token is left the document is cut short.
abbrev pub at_token : (Token → List Token → Result Left Stop) → Reader
at_token read last [] = Err (stop Syntax last)
at_token read last (t ∷ ts) = read t ts

abbrev pub literal_stop : List ℕ → DescentKind → Token → Option Stop
literal_stop literal kind t = if bytes_eq t.text literal then None else Some (stop kind t.place)

abbrev pub number_stop : Token → Option Stop
number_stop t = if is_number t.text then None else Some (stop InvalidNumber t.place)

-- what is wrong with a string, a literal or a number
abbrev pub scalar_stop : Token → Option Stop
scalar_stop t =
    if t.byte == 0x22 then bad_escape (suc t.place) t.text
    else (if t.byte == 0x74 then literal_stop (codes "true") ExpectedTrue t
    else (if t.byte == 0x66 then literal_stop (codes "false") ExpectedFalse t
    else (if t.byte == 0x6e then literal_stop (codes "null") ExpectedNull t
    else number_stop t)))

abbrev pub begins_scalar : ℕ → Bool
begins_scalar b = b == 0x22 || b == 0x74 || b == 0x66 || b == 0x6e || b == 0x2d || is_ascii_digit b

-- A token is judged before anything after it.
abbrev pub unless : Option Stop → Left → Result Left Stop
unless None l = Ok l
unless (Some s) l = Err s

abbrev pub read_scalar : Token → List Token → Result Left Stop
read_scalar t ts = unless (scalar_stop t) (left t.place ts)

-- A value that begins with this token. The first two read what stands behind `[` and `{`.
abbrev pub read_value : (Token → List Token → Result Left Stop) → (Token → List Token → Result Left Stop) → DescentKind → Token → List Token → Result Left Stop
read_value list object unexpected t ts =
    if t.byte == 0x5b then list t ts
    else (if t.byte == 0x7b then object t ts
    else (if begins_scalar t.byte then read_scalar t ts
    else Err (stop unexpected t.place)))

-- The byte of the next token, and then the rest, or else this fault.
abbrev pub expect : ℕ → DescentKind → Reader → Reader
expect b kind rest = at_token (λ t ts. if t.byte == b then rest t.place ts else Err (stop kind t.place))

-- behind an item: `]`, or a comma and one more item
abbrev pub item_end : (DescentKind → Reader) → Reader → Token → List Token → Result Left Stop
item_end value more t ts =
    if t.byte == 0x5d then Ok (left t.place ts)
    else (if t.byte == 0x2c then then_read (value InternalError t.place ts) more
    else Err (stop ExpectedArrayComma t.place))

-- The number is that of the tokens that are left, or more: each step takes one.
abbrev pub more_items : (DescentKind → Reader) → ℕ → Reader
more_items value zero last ts = Err (stop Syntax last)
more_items value (suc n) last ts = at_token (item_end value (more_items value n)) last ts

-- behind `[`: `]`, or an item
abbrev pub read_items : (DescentKind → Reader) → Token → List Token → Result Left Stop
read_items value bracket ts = at_token (λ t others.
    if t.byte == 0x5d then Ok (left t.place others)
    else then_read (value ExpectedArrayContent bracket.place ts) (more_items value (length ts))) bracket.place ts

-- a key, a colon and a value
abbrev pub read_member : (DescentKind → Reader) → Token → List Token → Result Left Stop
read_member value key ts = then_read (read_scalar key ts) (expect 0x3a ExpectedObjectColon (value InternalError))

-- a member where the token begins a key, or else this fault
abbrev pub expect_member : (DescentKind → Reader) → DescentKind → Token → List Token → Result Left Stop
expect_member value kind t ts = if t.byte == 0x22 then read_member value t ts else Err (stop kind t.place)

-- behind a member: `}`, or a comma and one more member
abbrev pub member_end : (DescentKind → Reader) → Reader → Token → List Token → Result Left Stop
member_end value more t ts =
    if t.byte == 0x7d then Ok (left t.place ts)
    else (if t.byte == 0x2c then then_read (at_token (expect_member value ExpectedObjectKey) t.place ts) more
    else Err (stop ExpectedMapComma t.place))

abbrev pub more_members : (DescentKind → Reader) → ℕ → Reader
more_members value zero last ts = Err (stop Syntax last)
more_members value (suc n) last ts = at_token (member_end value (more_members value n)) last ts

-- behind `{`: `}`, or a member
abbrev pub read_members : (DescentKind → Reader) → Token → List Token → Result Left Stop
read_members value brace ts = at_token (λ t others.
    if t.byte == 0x7d then Ok (left t.place others)
    else then_read (expect_member value ExpectedObjectContent t others) (more_members value (length ts))) brace.place ts

abbrev pub too_deep : Token → List Token → Result Left Stop
too_deep t ts = Err (stop Syntax t.place)

-- A value that nests at most so many levels deep, or this fault where the token begins no value.
unfoldable pub value : ℕ → DescentKind → Reader
value zero unexpected last ts = at_token (read_value too_deep too_deep unexpected) last ts
value (suc limit) unexpected last ts = at_token (read_value (read_items (value limit)) (read_members (value limit)) unexpected) last ts

abbrev pub if_tokens : List Token → Stop → Option Stop
if_tokens [] s = None
if_tokens (t ∷ ts) s = Some s

-- No token is left behind the root, or else the fault is at the last token of the root.
abbrev pub nothing_left : DescentKind → Result Left Stop → Option Stop
nothing_left kind (Err s) = Some s
nothing_left kind (Ok l) = if_tokens l.tokens (stop kind l.last)

-- a scalar or a container begins the text
abbrev pub left_kind : List Token → DescentKind
left_kind [] = Syntax
left_kind (t ∷ ts) = if begins_scalar t.byte then TrailingData else InternalError

-- the first fault of the tokens, or none
abbrev pub descent : List Token → ℕ → Option Stop
descent ts limit = nothing_left (left_kind ts) (value limit InternalError 0 ts)
