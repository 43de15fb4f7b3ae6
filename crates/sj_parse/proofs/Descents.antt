-- What a descent comes to, from how the document reads between two tokens.
use Rattle.std.proofs.Common.{◌≡◌, ◌≢◌, inl, inr, ℕ, zero, suc, ◌+◌, ◌-◌, ◌<◌, ◌≤◌, Bool, true, false, List, [], ◌∷◌, ◌++◌, length, get_or, drop, take, Some, Ok, Err, refl, sym, ap, ◌∙◌, arith, length-append}
use Rattle.std.specs.Prelude.{◌==◌, if◌then◌else◌, slice_index, map, filter}
use Rattle.std.specs.List.{AllZip}
use Rattle.std.proofs.Math.Seq.{drop-cons, take-suc}
use Rattle.std.proofs.lemmas.Bool.{eqb-true, eq-eqb, ne_eqb}
use Rattle.std.proofs.lemmas.List.{get_or-drop, map-append}
use Rattle.sj_parse.specs.declared.descent_fault.DescentKind.{DescentKind}
use Rattle.sj_parse.specs.declared.descent_fault.DescentKind.TheVariants.{InternalError, Syntax, TrailingData, ExpectedArrayContent, ExpectedObjectContent}
use Rattle.sj_base.specs.Tree.{Tree, integer, decimal, list, object, no_items, item, Members, no_members, member}
use Rattle.sj_tape.specs.Listing.{list_entry, object_entry, string_entry, items_listing, members_listing}
use Rattle.sj_tape.specs.declared.node.Node.{Node}
use Rattle.sj_parse.specs.declared.descent_fault.Stop.{Stop}
use Rattle.sj_parse.specs.declared.stage_two.State.TheVariants.{End}
use Rattle.sj_parse.specs.Token.{Token, token_at}
use Rattle.sj_parse.specs.Escapes.{stop}
use Rattle.sj_base.specs.NumberTests.{is_integer, integer_value}
use Rattle.sj_parse.specs.Descent.{Left, left, begins_scalar, scalar_stop, left_kind, nothing_left, descent}
use Rattle.sj_parse.specs.Fault.{error_type, stop_error}
use Rattle.sj_parse.specs.Nodes.{makes_node, HasCarrier, HaveCarriers}
use Rattle.sj_parse.specs.inside.Trees.{Reading, mapped, token_tree, tree_of_value, tree_of_items, tree_of_more_items, tree_of_members, tree_of_expected_member, tree_of_more_members, no_tree, tree_value}
use Rattle.sj_parse.specs.inside.Machine.{Waiting, array_of, object_of, Config, value_next, first_item, item_end, first_member, key_next, colon_next, member_end, ended, waiting_entries, waiting_stack, config_state, config_entries, config_stack, array_frame, object_frame, reading}
use Rattle.sj_parse.specs.inside.Step.{StopsAt, left_kind_of}
use Rattle.sj_parse.proofs.Joined.{if_parts, on_token_parts, then_parts, read_parts, mapped_parts, judged_parts}
use Rattle.sj_parse.proofs.Forget.{forget, forget-tree_value}

-- ---- no token is left

value-end : (limit : ℕ) (kind : DescentKind) (last : ℕ) → tree_value limit kind last [] ≡ Err (stop Syntax last)
unfolding tree_value
value-end zero kind last = refl
value-end (suc limit) kind last = refl

pub reading-end : (limit : ℕ) (c : Config) (last : ℕ) → config_state c ≢ End → reading limit c last [] ≡ Err (stop Syntax last)
reading-end limit (value_next ws) last n = rw (value-end (limit - length ws) InternalError last) refl
reading-end limit (first_item ws) last n = refl
reading-end limit (item_end xs ws) last n = refl
reading-end limit (first_member ws) last n = refl
reading-end limit (key_next ms ws) last n = refl
reading-end limit (colon_next ms k ws) last n = refl
reading-end limit (member_end ms ws) last n = refl
reading-end limit (ended t) last n = absurd (n refl)

-- ---- what the first token says of the root

kind_if : (b : Bool) (x y : Tree) (k : DescentKind) → left_kind_of x ≡ k → left_kind_of y ≡ k → left_kind_of (if b then x else y) ≡ k
kind_if true x y k h g = h
kind_if false x y k h g = g

scalar_kind : (t : Token) → left_kind_of (token_tree t) ≡ TrailingData
scalar_kind t =
    kind_if (t.byte == 0x22) _ _ TrailingData refl
    (kind_if (t.byte == 0x74) _ _ TrailingData refl
    (kind_if (t.byte == 0x66) _ _ TrailingData refl
    (kind_if (t.byte == 0x6e) _ _ TrailingData refl
    (kind_if (is_integer t.text) (integer (integer_value t.text)) (decimal t.text) TrailingData refl refl))))

items_kind : (read : DescentKind → ℕ → List Token → Reading Tree) (bracket : Token) (ts : List Token) (t : Tree) (l : Left) → tree_of_items read bracket ts ≡ Ok (t, l) → left_kind_of t ≡ InternalError
items_kind read bracket ts t l e =
    let p = on_token_parts _ bracket.place ts (t, l) e in
    elim (if_parts ((p.0).byte == 0x5d) _ _ (t, l) p.3) [
      | inl a ↦ ap left_kind_of (sym (read_parts (list no_items, left (p.0).place p.1) (t, l) a.1).0)
      | inr a ↦
          let q = then_parts (read ExpectedArrayContent bracket.place ts) (λ x last rest. mapped (λ xs. list (item x xs)) (tree_of_more_items read (length ts) last rest)) (t, l) a.1 in
          let m = mapped_parts (λ xs. list (item q.0 xs)) (tree_of_more_items read (length ts) (q.1).last (q.1).tokens) t l q.3 in
          ap left_kind_of (sym m.2)
    ]

members_kind : (read : DescentKind → ℕ → List Token → Reading Tree) (brace : Token) (ts : List Token) (t : Tree) (l : Left) → tree_of_members read brace ts ≡ Ok (t, l) → left_kind_of t ≡ InternalError
members_kind read brace ts t l e =
    let p = on_token_parts _ brace.place ts (t, l) e in
    elim (if_parts ((p.0).byte == 0x7d) _ _ (t, l) p.3) [
      | inl a ↦ ap left_kind_of (sym (read_parts (object no_members, left (p.0).place p.1) (t, l) a.1).0)
      | inr a ↦
          let q = then_parts (tree_of_expected_member read ExpectedObjectContent p.0 p.1) (λ m last rest. mapped (λ ms. object (member m.0 m.1 ms)) (tree_of_more_members read (length ts) last rest)) (t, l) a.1 in
          let m = mapped_parts (λ ms. object (member (q.0).0 (q.0).1 ms)) (tree_of_more_members read (length ts) (q.1).last (q.1).tokens) t l q.3 in
          ap left_kind_of (sym m.2)
    ]

value_kind : (items members : Token → List Token → Reading Tree) (kind : DescentKind) (first : Token) (ts : List Token) (t : Tree) (l : Left)
    → (items first ts ≡ Ok (t, l) → left_kind_of t ≡ InternalError) → (members first ts ≡ Ok (t, l) → left_kind_of t ≡ InternalError)
    → tree_of_value items members kind first ts ≡ Ok (t, l) → left_kind (first ∷ ts) ≡ left_kind_of t
value_kind items members kind first ts t l is_items is_members e = elim (if_parts (first.byte == 0x5b) _ _ (t, l) e) [
  | inl a ↦ ap (λ b. if begins_scalar b then TrailingData else InternalError) (eqb-true first.byte 0x5b a.0) ∙ sym (is_items a.1)
  | inr a ↦ elim (if_parts (first.byte == 0x7b) _ _ (t, l) a.1) [
    | inl b ↦ ap (λ c. if begins_scalar c then TrailingData else InternalError) (eqb-true first.byte 0x7b b.0) ∙ sym (is_members b.1)
    | inr b ↦ elim (if_parts (begins_scalar first.byte) _ _ (t, l) b.1) [
      | inl d ↦
          let j = judged_parts (scalar_stop first) (token_tree first) t _ l d.1 in
          ap (λ (x : Bool). if x then TrailingData else InternalError) d.0 ∙ sym (scalar_kind first) ∙ ap left_kind_of j.1
      | inr d ↦ absurd cc
    ]
  ]
]

pub first_kind : (limit : ℕ) (kind : DescentKind) (last : ℕ) (ts : List Token) (t : Tree) (l : Left) → tree_value limit kind last ts ≡ Ok (t, l) → left_kind ts ≡ left_kind_of t
unfolding tree_value
first_kind zero kind last ts t l e =
    let p = on_token_parts _ last ts (t, l) e in
    ap left_kind p.2 ∙ value_kind no_tree no_tree kind p.0 p.1 t l (λ x. absurd cc) (λ x. absurd cc) p.3
first_kind (suc limit) kind last ts t l e =
    let p = on_token_parts _ last ts (t, l) e in
    ap left_kind p.2 ∙ value_kind (tree_of_items (tree_value limit)) (tree_of_members (tree_value limit)) kind p.0 p.1 t l (items_kind (tree_value limit) p.0 p.1 t l) (members_kind (tree_value limit) p.0 p.1 t l) p.3

-- ---- the descent

pub descent-err : (limit : ℕ) (ts : List Token) (s : Stop) → tree_value limit InternalError 0 ts ≡ Err s → descent ts limit ≡ Some s
descent-err limit ts s e = ap (nothing_left (left_kind ts)) (forget-tree_value limit InternalError 0 ts ∙ ap forget e)

pub descent-left : (limit : ℕ) (ts : List Token) (t : Tree) (last : ℕ) (u : Token) (us : List Token) → tree_value limit InternalError 0 ts ≡ Ok (t, left last (u ∷ us)) → descent ts limit ≡ Some (stop (left_kind_of t) last)
descent-left limit ts t last u us e =
    ap (nothing_left (left_kind ts)) (forget-tree_value limit InternalError 0 ts ∙ ap forget e) ∙ ap (λ k. Some (stop k last)) (first_kind limit InternalError 0 ts t (left last (u ∷ us)) e)

-- ---- no more frames than entries

waiting_few : (ws : List Waiting) → length (waiting_stack ws) ≤ length (waiting_entries ws)
waiting_few [] = omega arith
waiting_few (array_of xs ∷ ws) =
    let few = waiting_few ws in
    let frames = length-append (waiting_stack ws) (array_frame xs ws ∷ []) in
    let both = length-append (waiting_entries ws) (list_entry 0 0 ∷ items_listing xs) in omega arith
waiting_few (object_of ms k ∷ ws) =
    let few = waiting_few ws in
    let frames = length-append (waiting_stack ws) (object_frame ms ws ∷ []) in
    let both = length-append (waiting_entries ws) (object_entry 0 0 ∷ (members_listing ms ++ string_entry k ∷ [])) in omega arith

members_few : (ms : Members) (ws : List Waiting) → length (waiting_stack ws ++ object_frame ms ws ∷ []) ≤ length (waiting_entries ws ++ object_entry 0 0 ∷ members_listing ms)
members_few ms ws =
    let few = waiting_few ws in
    let frames = length-append (waiting_stack ws) (object_frame ms ws ∷ []) in
    let both = length-append (waiting_entries ws) (object_entry 0 0 ∷ members_listing ms) in omega arith

pub config_few : (c : Config) → length (config_stack c) ≤ length (config_entries c)
config_few (value_next ws) = waiting_few ws
config_few (first_item ws) = waiting_few (array_of no_items ∷ ws)
config_few (item_end xs ws) = waiting_few (array_of xs ∷ ws)
config_few (first_member ws) = members_few no_members ws
config_few (key_next ms ws) = members_few ms ws
config_few (colon_next ms k ws) =
    let few = waiting_few ws in
    let frames = length-append (waiting_stack ws) (object_frame ms ws ∷ []) in
    let both = length-append (waiting_entries ws) (object_entry 0 0 ∷ (members_listing ms ++ string_entry k ∷ [])) in omega arith
config_few (member_end ms ws) = members_few ms ws
config_few (ended t) = omega arith

filter_few : (ts : List Token) → length (filter makes_node ts) ≤ length ts
filter_few [] = omega arith
filter_few (t ∷ ts) = at (makes_node t) (filter_few ts)
  where
    at : (b : Bool) → length (filter makes_node ts) ≤ length ts → length (if b then t ∷ filter makes_node ts else filter makes_node ts) ≤ suc (length ts)
    at true few = omega arith
    at false few = omega arith

zip_long : (us : List Token) (ns : List Node) → AllZip HasCarrier us ns → length ns ≡ length us
zip_long [] [] h = refl
zip_long [] (n ∷ ns) h = absurd h
zip_long (u ∷ us) [] h = absurd h
zip_long (u ∷ us) (n ∷ ns) h = ap suc (zip_long us ns h.1)

-- no more nodes than tokens
pub nodes_few : (ts : List Token) (ns : List Node) → HaveCarriers ts ns → length ns ≤ length ts
nodes_few ts ns h = let few = filter_few ts in let same = zip_long (filter makes_node ts) ns h in omega arith

-- ---- the error of a stop

error_if : (b : Bool) (bytes : List ℕ) (s : Stop) (place first : ℕ) → (s.place == place) ≡ b → (if b then first else 0x5c) ≡ slice_index bytes s.place
    → record { error = error_type s.kind; index = s.place; character = Some (if s.place == place then first else 0x5c) } ≡ stop_error bytes s
error_if b bytes s place first is at = ap (λ x. record { error = error_type s.kind; index = s.place; character = Some (if x then first else 0x5c) }) is ∙ ap (λ x. record { error = error_type s.kind; index = s.place; character = Some x }) at

-- The byte at the token's first place is known, or else it is a backslash.
pub stop_at : (bytes rest : List ℕ) (from place skip first : ℕ) (s : Stop) → rest ≡ drop from bytes → from + skip ≡ place → first ≡ slice_index rest skip → StopsAt place skip rest s
    → record { error = error_type s.kind; index = s.place; character = Some (if s.place == place then first else 0x5c) } ≡ stop_error bytes s
stop_at bytes rest from place skip first s is sum byte (inl same) =
    error_if true bytes s place first (eq-eqb s.place place same)
    (byte ∙ ap (λ (bs : List ℕ). get_or bs skip 0) is ∙ get_or-drop from bytes skip 0 ∙ ap (λ (i : ℕ). get_or bytes i 0) (sum ∙ sym same))
stop_at bytes rest from place skip first s is sum byte (inr (k, at, backslash)) =
    let there : from + (skip + suc k) ≡ s.place = omega arith in
    error_if false bytes s place first (ne_eqb s.place place (λ e. omega arith))
    (sym backslash ∙ ap (λ (bs : List ℕ). get_or bs (skip + suc k) 0) is ∙ get_or-drop from bytes (skip + suc k) 0 ∙ ap (λ (i : ℕ). get_or bytes i 0) there)

-- ---- one more token

pub tokens-left : (bytes places : List ℕ) (i : ℕ) → i < length places → map (token_at bytes) (drop i places) ≡ token_at bytes (slice_index places i) ∷ map (token_at bytes) (drop (i + 1) places)
tokens-left bytes places i h = let more : suc i ≡ i + 1 = omega arith in ap (map (token_at bytes)) (drop-cons places i 0 h ∙ ap (λ (k : ℕ). slice_index places i ∷ drop k places) more)

pub tokens-read : (bytes places : List ℕ) (i : ℕ) → i < length places → map (token_at bytes) (take (i + 1) places) ≡ map (token_at bytes) (take i places) ++ token_at bytes (slice_index places i) ∷ []
tokens-read bytes places i h = let more : i + 1 ≡ suc i = omega arith in ap (map (token_at bytes)) (ap (λ (k : ℕ). take k places) more ∙ take-suc places i 0 h) ∙ map-append (token_at bytes) (take i places) (slice_index places i ∷ [])
