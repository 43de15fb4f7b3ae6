-- Tokens of scalars: what their bytes say of them.
use Rattle.std.proofs.Common.{◌≡◌, ◌⊎◌, inl, inr, ℕ, suc, ◌+◌, ◌<◌, ◌≤◌, Bool, true, false, ◌||◌, List, [], ◌∷◌, length, get_or, drop, Some, None, refl, sym, ap, ◌∙◌, arith, add-one}
use Rattle.std.specs.Prelude.{◌==◌, if◌then◌else◌, slice_index, codes}
use Rattle.std.specs.Char.{is_ascii_digit}
use Rattle.std.proofs.Math.Seq.{drop-cons}
use Rattle.std.proofs.lemmas.Bool.{eq-eqb, ne_eqb, eqb-true}
use Rattle.std.proofs.lemmas.List.{get_or-drop}
use Rattle.sj_parse.specs.declared.descent_fault.DescentKind.TheVariants.{ExpectedTrue, ExpectedFalse, ExpectedNull, InvalidNumber}
use Rattle.sj_base.specs.declared.static_node.StaticNode.TheVariants.{Null, Bool as Boolean, I64, U64}
use Rattle.sj_base.specs.Tree.{integer, decimal, string}
use Rattle.sj_scan.specs.Positions.{is_whitespace, is_operator}
use Rattle.sj_tape.specs.Listing.{Entry, string_entry, integer_entry, decimal_entry, listing}
use Rattle.sj_tape.specs.Nodes.{node_entry}
use Rattle.sj_tape.specs.declared.node.Node.{Node}
use Rattle.sj_tape.specs.declared.node.Node.TheVariants.{String, Object, Array, Static, Decimal}
use Rattle.sj_parse.specs.declared.descent_fault.Stop.{Stop}
use Rattle.sj_parse.specs.Token.{Token, word, body, token_text}
use Rattle.sj_parse.specs.Escapes.{stop, bad_escape}
use Rattle.sj_base.specs.NumberTests.{is_negative, is_integer, is_decimal, is_number, integer_value}
use Rattle.sj_parse.specs.Descent.{begins_scalar, scalar_stop, number_stop, literal_stop}
use Rattle.sj_parse.specs.Nodes.{HasCarrier}
use Rattle.sj_parse.specs.inside.Trees.{decoded, number_tree, token_tree}
use Rattle.sj_parse.specs.inside.NumberNode.{IsNumberNode}
use Rattle.sj_parse.specs.inside.Step.{string_body, token_of, IsScalarNode}
use Rattle.sj_base.proofs.Literals.{from_test}
use Rattle.sj_parse.proofs.Bodies.{body-body_from}

-- ---- the byte of a token, and its text

pub token_byte : (place : ℕ) (before bs : List ℕ) (skip : ℕ) → (token_of place before (drop skip bs)).byte ≡ slice_index bs skip
token_byte place before bs skip = let same : skip + 0 ≡ skip = omega arith in get_or-drop skip bs 0 0 ∙ ap (λ (i : ℕ). get_or bs i 0) same

token_bytes : (bs : List ℕ) (skip : ℕ) → skip < length bs → drop skip bs ≡ slice_index bs skip ∷ drop (skip + 1) bs
token_bytes bs skip h = drop-cons bs skip 0 h ∙ ap (λ (n : ℕ). slice_index bs skip ∷ drop n bs) (sym (add-one skip))

-- an opening quote hides what stands before it
body-quote : (before bs : List ℕ) → body (0x22 ∷ before) bs ≡ string_body bs
body-quote before bs = body-body_from (0x22 ∷ before) bs ∙ sym (body-body_from (0x22 ∷ []) bs)

pub string_text : (place : ℕ) (before bs : List ℕ) (skip : ℕ) → skip < length bs → slice_index bs skip ≡ 0x22 → (token_of place before (drop skip bs)).text ≡ string_body (drop (skip + 1) bs)
string_text place before bs skip h quote =
    ap (token_text before) (token_bytes bs skip h) ∙ ap (λ (b : ℕ). token_text before (b ∷ drop (skip + 1) bs)) quote ∙ body-quote before (drop (skip + 1) bs)

-- a token that is neither an operator nor a string
pub word_text : (place : ℕ) (before bs : List ℕ) (skip : ℕ) → skip < length bs → is_operator (slice_index bs skip) ≡ false → (slice_index bs skip == 0x22) ≡ false → (token_of place before (drop skip bs)).text ≡ word (drop skip bs)
word_text place before bs skip h no_operator no_quote =
    let b = slice_index bs skip in
    let others = drop (skip + 1) bs in
    ap (token_text before) (token_bytes bs skip h)
    ∙ ap (λ (is : Bool). if is then b ∷ [] else (if b == 0x22 then body (b ∷ before) others else word (b ∷ others))) no_operator
    ∙ ap (λ (is : Bool). if is then body (b ∷ before) others else word (b ∷ others)) no_quote
    ∙ ap word (sym (token_bytes bs skip h))

-- ---- strings

pub quote_begins : (b : ℕ) → b ≡ 0x22 → begins_scalar b ≡ true
quote_begins b is = ap begins_scalar is

string_stop : (t : Token) → t.byte ≡ 0x22 → scalar_stop t ≡ bad_escape (suc t.place) t.text
string_stop t is =
    let quote : (t.byte == 0x22) ≡ true = eq-eqb t.byte 0x22 is in
    ap (λ (b : Bool). if b then bad_escape (suc t.place) t.text else (if t.byte == 0x74 then literal_stop (codes "true") ExpectedTrue t else (if t.byte == 0x66 then literal_stop (codes "false") ExpectedFalse t else (if t.byte == 0x6e then literal_stop (codes "null") ExpectedNull t else number_stop t)))) quote

string_tree : (t : Token) → t.byte ≡ 0x22 → token_tree t ≡ string (decoded t.text)
string_tree t is = let quote : (t.byte == 0x22) ≡ true = eq-eqb t.byte 0x22 is in rw quote refl

pub string_node : (t : Token) (text : List ℕ) (n : Node) → t.byte ≡ 0x22 → bad_escape (t.place + 1) t.text ≡ None → text ≡ decoded t.text → node_entry n ≡ string_entry text → HasCarrier t n → IsScalarNode t n
string_node t text n is fine decodes entry carries = record {
  is_right = string_stop t is ∙ ap (λ (p : ℕ). bad_escape p t.text) (sym (add-one t.place)) ∙ fine;
  lists = ap (λ (e : Entry). e ∷ []) (entry ∙ ap string_entry decodes) ∙ ap listing (sym (string_tree t is));
  carries = carries;
}

pub string_fault : (t : Token) (s : Stop) → t.byte ≡ 0x22 → bad_escape (t.place + 1) t.text ≡ Some s → scalar_stop t ≡ Some s
string_fault t s is bad = string_stop t is ∙ ap (λ (p : ℕ). bad_escape p t.text) (sym (add-one t.place)) ∙ bad

-- ---- numbers

-- a minus or a digit
abbrev pub BeginsNumber : ℕ → Type 0
BeginsNumber b = (b ≡ 0x2d) ⊎ (is_ascii_digit b ≡ true)

pub number_range : (b : ℕ) → BeginsNumber b → (45 ≤ b) × (b ≤ 57)
number_range b (inl is) = (omega arith, omega arith)
number_range b (inr is) = let digit = from_test b is in (omega arith, omega arith)

pub number_no_operator : (b : ℕ) → BeginsNumber b → is_operator b ≡ false
number_no_operator b is =
    let r = number_range b is in
    rw (ne_eqb b 0x7b (λ e. omega arith), ne_eqb b 0x7d (λ e. omega arith), ne_eqb b 0x5b (λ e. omega arith), ne_eqb b 0x5d (λ e. omega arith), ne_eqb b 0x3a (λ e. omega arith), ne_eqb b 0x2c (λ e. omega arith)) refl

pub number_no_whitespace : (b : ℕ) → BeginsNumber b → is_whitespace b ≡ false
number_no_whitespace b is =
    let r = number_range b is in
    rw (ne_eqb b 0x20 (λ e. omega arith), ne_eqb b 0x09 (λ e. omega arith), ne_eqb b 0x0a (λ e. omega arith), ne_eqb b 0x0d (λ e. omega arith)) refl

pub number_no_quote : (b : ℕ) → BeginsNumber b → (b == 0x22) ≡ false
number_no_quote b is = let r = number_range b is in ne_eqb b 0x22 (λ e. omega arith)

or_true : (b : Bool) → (b || true) ≡ true
or_true true = refl
or_true false = refl

pub number_begins : (b : ℕ) → BeginsNumber b → begins_scalar b ≡ true
number_begins b (inl is) = ap begins_scalar is
number_begins b (inr is) =
    let others = b == 0x22 || b == 0x74 || b == 0x66 || b == 0x6e || b == 0x2d in
    ap (λ (d : Bool). others || d) is ∙ or_true others

pub number_stops : (t : Token) → BeginsNumber t.byte → scalar_stop t ≡ number_stop t
number_stops t is =
    let r = number_range t.byte is in
    rw (ne_eqb t.byte 0x22 (λ e. omega arith), ne_eqb t.byte 0x74 (λ e. omega arith), ne_eqb t.byte 0x66 (λ e. omega arith), ne_eqb t.byte 0x6e (λ e. omega arith)) refl

pub number_trees : (t : Token) → BeginsNumber t.byte → token_tree t ≡ number_tree t.text
number_trees t is =
    let r = number_range t.byte is in
    rw (ne_eqb t.byte 0x22 (λ e. omega arith), ne_eqb t.byte 0x74 (λ e. omega arith), ne_eqb t.byte 0x66 (λ e. omega arith), ne_eqb t.byte 0x6e (λ e. omega arith)) refl

-- the node says that the text is a number, and lists its tree
node_number : (text : List ℕ) (n : Node) → IsNumberNode text n → is_number text ≡ true
node_number text (Static (I64 n)) h = ap (λ (b : Bool). b || is_decimal text) h.1
node_number text (Static (U64 n)) h = ap (λ (b : Bool). b || is_decimal text) h.1
node_number text (Decimal d) h = ap (λ (b : Bool). is_integer text || b) h.1 ∙ or_true (is_integer text)
node_number text (Static Null) h = absurd h
node_number text (Static (Boolean b)) h = absurd h
node_number text (String s) h = absurd h
node_number text (Object len count) h = absurd h
node_number text (Array len count) h = absurd h

node_lists : (text : List ℕ) (n : Node) → IsNumberNode text n → node_entry n ∷ [] ≡ listing (number_tree text)
node_lists text (Static (I64 n)) h = ap (λ z. integer_entry z ∷ []) h.2 ∙ ap (λ (b : Bool). listing (if b then integer (integer_value text) else decimal text)) (sym h.1)
node_lists text (Static (U64 n)) h = ap (λ z. integer_entry z ∷ []) h.2 ∙ ap (λ (b : Bool). listing (if b then integer (integer_value text) else decimal text)) (sym h.1)
node_lists text (Decimal d) h = ap (λ (bs : List ℕ). decimal_entry bs ∷ []) h.2 ∙ ap (λ (b : Bool). listing (if b then integer (integer_value text) else decimal text)) (sym h.0)
node_lists text (Static Null) h = absurd h
node_lists text (Static (Boolean b)) h = absurd h
node_lists text (String s) h = absurd h
node_lists text (Object len count) h = absurd h
node_lists text (Array len count) h = absurd h

node_carries : (t : Token) (n : Node) → is_negative t.text ≡ (t.byte == 0x2d) → IsNumberNode t.text n → HasCarrier t n
node_carries t (Static (I64 n)) first h = eqb-true t.byte 0x2d (sym first ∙ h.0)
node_carries t (Static (U64 n)) first h = λ e. let is : (t.byte == 0x2d) ≡ true = eq-eqb t.byte 0x2d e in let contrary : true ≡ false = sym is ∙ sym first ∙ h.0 in absurd cc
node_carries t (Decimal d) first h = tt
node_carries t (Static Null) first h = absurd h
node_carries t (Static (Boolean b)) first h = absurd h
node_carries t (String s) first h = absurd h
node_carries t (Object len count) first h = absurd h
node_carries t (Array len count) first h = absurd h

-- a word begins with its token's byte
pub first_of_word : (bs : List ℕ) (skip : ℕ) → skip < length bs → BeginsNumber (slice_index bs skip) → is_negative (word (drop skip bs)) ≡ (slice_index bs skip == 0x2d)
first_of_word bs skip h is =
    let b = slice_index bs skip in
    ap (λ (xs : List ℕ). is_negative (word xs)) (token_bytes bs skip h)
    ∙ ap (λ (stop : Bool). is_negative (if stop then [] else b ∷ word (drop (skip + 1) bs))) (ap (λ (w : Bool). w || is_operator b) (number_no_whitespace b is) ∙ number_no_operator b is)

pub number_node-is : (t : Token) (n : Node) → BeginsNumber t.byte → is_negative t.text ≡ (t.byte == 0x2d) → IsNumberNode t.text n → IsScalarNode t n
number_node-is t n is first h = record {
  is_right = number_stops t is ∙ ap (λ (b : Bool). if b then None else Some (stop InvalidNumber t.place)) (node_number t.text n h);
  lists = node_lists t.text n h ∙ ap listing (sym (number_trees t is));
  carries = node_carries t n first h;
}

pub number_fault : (t : Token) → BeginsNumber t.byte → is_number t.text ≡ false → scalar_stop t ≡ Some (stop InvalidNumber t.place)
number_fault t is none = number_stops t is ∙ ap (λ (b : Bool). if b then None else Some (stop InvalidNumber t.place)) none
