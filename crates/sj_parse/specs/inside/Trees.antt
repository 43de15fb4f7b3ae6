-- The descent again, with the tree that it reads.
use Rattle.std.specs.Prelude.{ℕ, zero, suc, ◌==◌, if◌then◌else◌, true, false, List, [], ◌∷◌, length, Option, Some, None, Result, Ok, Err}
use Rattle.sj_parse.specs.declared.descent_fault.DescentKind.{DescentKind}
use Rattle.sj_parse.specs.declared.descent_fault.DescentKind.TheVariants.{InternalError, Syntax, ExpectedArrayContent, ExpectedObjectContent, ExpectedObjectKey, ExpectedObjectColon, ExpectedArrayComma, ExpectedMapComma}
use Rattle.sj_base.specs.Tree.{Tree, null, boolean, integer, decimal, string, list, object, Items, no_items, item, Members, no_members, member}
use Rattle.sj_parse.specs.declared.descent_fault.Stop.{Stop}
use Rattle.sj_parse.specs.Token.{Token}
use Rattle.sj_parse.specs.Escapes.{stop}
pub use Rattle.sj_parse.specs.inside.Decoded.{escaped_character, decoded_behind, decoded}
use Rattle.sj_base.specs.NumberTests.{is_integer, integer_value}
use Rattle.sj_parse.specs.Descent.{Left, left, scalar_stop, begins_scalar}

-- ---- scalars

abbrev pub number_tree : List ℕ → Tree
number_tree text = if is_integer text then integer (integer_value text) else decimal text

abbrev pub token_tree : Token → Tree
token_tree t =
    if t.byte == 0x22 then string (decoded t.text)
    else (if t.byte == 0x74 then boolean true
    else (if t.byte == 0x66 then boolean false
    else (if t.byte == 0x6e then null
    else number_tree t.text)))

-- ---- the descent

-- what was read, and what is left
abbrev pub Reading : Type 0 → Type 0
Reading A = Result (A × Left) Stop

abbrev pub with_rest : {A B : Type 0} → Reading A → (A → ℕ → List Token → Reading B) → Reading B
with_rest (Ok p) read = read p.0 p.1.last p.1.tokens
with_rest (Err s) read = Err s

abbrev pub mapped : {A B : Type 0} → (A → B) → Reading A → Reading B
mapped f (Ok p) = Ok (f p.0, p.1)
mapped f (Err s) = Err s

abbrev pub on_token : {A : Type 0} → (Token → List Token → Reading A) → ℕ → List Token → Reading A
on_token read last [] = Err (stop Syntax last)
on_token read last (t ∷ ts) = read t ts

abbrev pub judged : {A : Type 0} → Option Stop → A → Left → Reading A
judged None x l = Ok (x, l)
judged (Some s) x l = Err s

abbrev pub tree_of_value : (Token → List Token → Reading Tree) → (Token → List Token → Reading Tree) → DescentKind → Token → List Token → Reading Tree
tree_of_value items members unexpected t ts =
    if t.byte == 0x5b then items t ts
    else (if t.byte == 0x7b then members t ts
    else (if begins_scalar t.byte then judged (scalar_stop t) (token_tree t) (left t.place ts)
    else Err (stop unexpected t.place)))

abbrev pub tree_of_item_end : (DescentKind → ℕ → List Token → Reading Tree) → (ℕ → List Token → Reading Items) → Token → List Token → Reading Items
tree_of_item_end value more t ts =
    if t.byte == 0x5d then Ok (no_items, left t.place ts)
    else (if t.byte == 0x2c then with_rest (value InternalError t.place ts) (λ x last rest. mapped (item x) (more last rest))
    else Err (stop ExpectedArrayComma t.place))

abbrev pub tree_of_more_items : (DescentKind → ℕ → List Token → Reading Tree) → ℕ → ℕ → List Token → Reading Items
tree_of_more_items value zero last ts = Err (stop Syntax last)
tree_of_more_items value (suc n) last ts = on_token (tree_of_item_end value (tree_of_more_items value n)) last ts

abbrev pub tree_of_items : (DescentKind → ℕ → List Token → Reading Tree) → Token → List Token → Reading Tree
tree_of_items value bracket ts = on_token (λ t others.
    if t.byte == 0x5d then Ok (list no_items, left t.place others)
    else with_rest (value ExpectedArrayContent bracket.place ts) (λ x last rest. mapped (λ xs. list (item x xs)) (tree_of_more_items value (length ts) last rest))) bracket.place ts

-- a key, a colon and a value
abbrev pub tree_of_member : (DescentKind → ℕ → List Token → Reading Tree) → Token → List Token → Reading (List ℕ × Tree)
tree_of_member value key ts =
    with_rest (judged (scalar_stop key) (decoded key.text) (left key.place ts)) (λ k last rest.
    on_token (λ t others.
    if t.byte == 0x3a then mapped (λ x. (k, x)) (value InternalError t.place others)
    else Err (stop ExpectedObjectColon t.place)) last rest)

abbrev pub tree_of_expected_member : (DescentKind → ℕ → List Token → Reading Tree) → DescentKind → Token → List Token → Reading (List ℕ × Tree)
tree_of_expected_member value kind t ts = if t.byte == 0x22 then tree_of_member value t ts else Err (stop kind t.place)

abbrev pub tree_of_member_end : (DescentKind → ℕ → List Token → Reading Tree) → (ℕ → List Token → Reading Members) → Token → List Token → Reading Members
tree_of_member_end value more t ts =
    if t.byte == 0x7d then Ok (no_members, left t.place ts)
    else (if t.byte == 0x2c then with_rest (on_token (tree_of_expected_member value ExpectedObjectKey) t.place ts) (λ m last rest. mapped (member m.0 m.1) (more last rest))
    else Err (stop ExpectedMapComma t.place))

abbrev pub tree_of_more_members : (DescentKind → ℕ → List Token → Reading Tree) → ℕ → ℕ → List Token → Reading Members
tree_of_more_members value zero last ts = Err (stop Syntax last)
tree_of_more_members value (suc n) last ts = on_token (tree_of_member_end value (tree_of_more_members value n)) last ts

abbrev pub tree_of_members : (DescentKind → ℕ → List Token → Reading Tree) → Token → List Token → Reading Tree
tree_of_members value brace ts = on_token (λ t others.
    if t.byte == 0x7d then Ok (object no_members, left t.place others)
    else with_rest (tree_of_expected_member value ExpectedObjectContent t others) (λ m last rest. mapped (λ ms. object (member m.0 m.1 ms)) (tree_of_more_members value (length ts) last rest))) brace.place ts

abbrev pub no_tree : Token → List Token → Reading Tree
no_tree t ts = Err (stop Syntax t.place)

-- `value` with its tree
unfoldable pub tree_value : ℕ → DescentKind → ℕ → List Token → Reading Tree
tree_value zero unexpected last ts = on_token (tree_of_value no_tree no_tree unexpected) last ts
tree_value (suc limit) unexpected last ts = on_token (tree_of_value (tree_of_items (tree_value limit)) (tree_of_members (tree_value limit)) unexpected) last ts
