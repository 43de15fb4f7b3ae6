-- What one step of stage two answers, for the token that it reads.
use Rattle.std.specs.Prelude.{◌≡◌, ◌≢◌, ℕ, ◌+◌, ◌<◌, ◌≤◌, ◌==◌, if◌then◌else◌, true, false, List, [], ◌∷◌, ◌++◌, ◌⊎◌, length, slice_index, Result, Ok, Err, None, suc}
use Rattle.sj_parse.specs.declared.descent_fault.DescentKind.{DescentKind}
use Rattle.sj_parse.specs.declared.descent_fault.DescentKind.TheVariants.{InternalError, Syntax, ExpectedArrayContent, ExpectedObjectContent, ExpectedObjectKey, ExpectedObjectColon, ExpectedArrayComma, ExpectedMapComma, TrailingData}
use Rattle.sj_tape.specs.Listing.{Entry, listing}
use Rattle.sj_tape.specs.Nodes.{node_entry}
use Rattle.sj_tape.specs.declared.node.Node.{Node}
use Rattle.sj_parse.specs.declared.stage_two.Role.{Role}
use Rattle.sj_parse.specs.declared.stage_two.Role.TheVariants as role
use Rattle.sj_parse.specs.declared.stage_two.Opening.TheVariants as opening
use Rattle.sj_parse.specs.declared.stage_two.Opening.{Opening}
use Rattle.std.specs.Char.{is_ascii_digit}
use Rattle.sj_parse.specs.Descent.{begins_scalar, scalar_stop}
use Rattle.sj_parse.specs.Nodes.{HasCarrier}
use Rattle.sj_base.specs.NumberTests.{is_number}
use Rattle.sj_parse.specs.declared.descent_fault.Stop.{Stop}
use Rattle.sj_parse.specs.declared.containers.Frame.{Frame}
use Rattle.sj_parse.specs.declared.stage_two.State.{State}
use Rattle.sj_parse.specs.declared.stage_two.State.TheVariants.{Value, FirstItem, ItemEnd, FirstMember, Key, Colon, MemberEnd, End}
use Rattle.sj_parse.specs.Escapes.{stop}
use Rattle.sj_parse.specs.Token.{Token, token_text, body}
use Rattle.sj_parse.specs.inside.Trees.{Reading, token_tree}
use Rattle.sj_parse.specs.inside.Machine.{Waiting, Config, IsAt, array_entries, object_entries, array_frame, object_frame, waiting_stack, reading, value_reading}
use Rattle.sj_base.specs.Tree.{Tree, null, boolean, integer, decimal, string, list, object, Items, Members}

-- the kind of the fault where something else comes than may come
abbrev pub unexpected_kind : State → DescentKind
unexpected_kind Value = InternalError
unexpected_kind FirstItem = ExpectedArrayContent
unexpected_kind ItemEnd = ExpectedArrayComma
unexpected_kind FirstMember = ExpectedObjectContent
unexpected_kind Key = ExpectedObjectKey
unexpected_kind Colon = ExpectedObjectColon
unexpected_kind MemberEnd = ExpectedMapComma
unexpected_kind End = TrailingData

-- what the first byte of a token is there
abbrev pub role_of : State → ℕ → Role
role_of Value b = role.Value
role_of FirstItem b = if b == 0x5d then role.Close else role.Value
role_of ItemEnd b = if b == 0x5d then role.Close else (if b == 0x2c then role.Separator Value else role.Unexpected)
role_of FirstMember b = if b == 0x7d then role.Close else (if b == 0x22 then role.Key else role.Unexpected)
role_of Key b = if b == 0x22 then role.Key else role.Unexpected
role_of Colon b = if b == 0x3a then role.Separator Value else role.Unexpected
role_of MemberEnd b = if b == 0x7d then role.Close else (if b == 0x2c then role.Separator Key else role.Unexpected)
role_of End b = role.Unexpected

-- the body of a string whose opening quote stands directly before these bytes
abbrev pub string_body : List ℕ → List ℕ
string_body bs = body (0x22 ∷ []) bs

-- It ends no body, and begins no escape.
abbrev pub IsPlain : ℕ → Type 0
IsPlain b = (b ≢ 0x22) × (b ≢ 0x5c)

-- the token at that place, from what stands before it, and from its bytes with what follows them
abbrev pub token_of : ℕ → List ℕ → List ℕ → Token
token_of place before bs = record { place = place; byte = slice_index bs 0; text = token_text before bs }

-- The answer to a token at `place`, before which the document reads as `now` says: behind the token it reads as it does from a config
-- of that state, or the stop is its first fault.
abbrev pub Steps : ℕ → ℕ → (ℕ → List Token → Reading Tree) → Result State Stop → List Entry → List Frame → Type 0
Steps limit place now (Ok state) es st =
    (d : Config) × IsAt d state es st × ((last : ℕ) (ts : List Token) → now last ts ≡ reading limit d place ts)
Steps limit place now (Err s) es st = (last : ℕ) (ts : List Token) → now last ts ≡ Err s

-- how the document reads at a value that begins with that token, and at a config
abbrev pub value_from : ℕ → DescentKind → List Waiting → Token → ℕ → List Token → Reading Tree
value_from limit kind ws t last ts = value_reading limit kind ws last (t ∷ ts)

abbrev pub reading_from : ℕ → Config → Token → ℕ → List Token → Reading Tree
reading_from limit c t last ts = reading limit c last (t ∷ ts)

-- Opening a container answers so: the config inside it, or a fault where as many levels as the limit are open.
abbrev pub Opens : ℕ → List Waiting → ℕ → Config → Result State Stop → List Entry → List Frame → Type 0
Opens limit ws place c (Ok state) es st = IsAt c state es st × (length ws < limit)
Opens limit ws place c (Err s) es st = (s ≡ stop Syntax place) × (limit ≤ length ws)

-- The innermost container is an array or an object.
abbrev pub Closes : List Entry → List Frame → Type 0
Closes es st =
    ((xs : Items) × (ws : List Waiting) × (es ≡ array_entries xs ws) × (st ≡ waiting_stack ws ++ array_frame xs ws ∷ []))
    ⊎ ((ms : Members) × (ws : List Waiting) × (es ≡ object_entries ms ws) × (st ≡ waiting_stack ws ++ object_frame ms ws ∷ []))

-- what a byte begins
abbrev pub Begins : ℕ → Opening → Type 0
Begins b opening.Array = (b == 0x5b) ≡ true
Begins b opening.Object = ((b == 0x5b) ≡ false) × ((b == 0x7b) ≡ true)
Begins b opening.String = ((b == 0x5b) ≡ false) × ((b == 0x7b) ≡ false) × (b ≡ 0x22)
Begins b opening.Literal = ((b == 0x5b) ≡ false) × ((b == 0x7b) ≡ false) × ((b ≡ 0x74) ⊎ ((b ≡ 0x66) ⊎ (b ≡ 0x6e)))
Begins b opening.Number = ((b == 0x5b) ≡ false) × ((b == 0x7b) ≡ false) × ((b ≡ 0x2d) ⊎ (is_ascii_digit b ≡ true))
Begins b opening.Nothing = ((b == 0x5b) ≡ false) × ((b == 0x7b) ≡ false) × (begins_scalar b ≡ false)

-- The node is that of a scalar token without a fault.
pub record IsScalarNode (t : Token) (n : Node) : Type 0 where
  pub is_right : scalar_stop t ≡ None
  pub lists : node_entry n ∷ [] ≡ listing (token_tree t)
  pub carries : HasCarrier t n

-- how far a token reaches into the bytes, at the least
abbrev pub reach : Token → ℕ
reach t = if t.byte == 0x22 then suc (length t.text) else (if is_number t.text then length t.text else 0)

-- The stop is at the token's first byte, or at a backslash behind it, within these bytes.
abbrev pub StopsAt : ℕ → ℕ → List ℕ → Stop → Type 0
StopsAt place skip bs s = (s.place ≡ place) ⊎ ((k : ℕ) × (s.place ≡ place + suc k) × (slice_index bs (skip + suc k) ≡ 0x5c))

-- the kind of the fault where tokens are left behind a root
abbrev pub left_kind_of : Tree → DescentKind
left_kind_of (list ts) = InternalError
left_kind_of (object ms) = InternalError
left_kind_of null = TrailingData
left_kind_of (boolean b) = TrailingData
left_kind_of (integer n) = TrailingData
left_kind_of (decimal literal) = TrailingData
left_kind_of (string s) = TrailingData
