-- The descent reads as it does with its tree, which it forgets; each part takes a token at least.
use Rattle.std.proofs.Common.{◌≡◌, ℕ, zero, suc, Bool, true, false, List, [], ◌∷◌, length, Option, Some, None, Result, Ok, Err, refl, sym, ap, ◌∙◌}
use Rattle.std.specs.Prelude.{◌==◌, if◌then◌else◌}
use Rattle.sj_parse.specs.declared.descent_fault.DescentKind.{DescentKind}
use Rattle.sj_parse.specs.declared.descent_fault.DescentKind.TheVariants.{InternalError, ExpectedArrayContent, ExpectedObjectContent, ExpectedObjectKey, ExpectedObjectColon, ExpectedArrayComma, ExpectedMapComma}
use Rattle.sj_base.specs.Tree.{Tree, list, object, no_items, item, no_members, member}
use Rattle.sj_parse.specs.declared.descent_fault.Stop.{Stop}
use Rattle.sj_parse.specs.Token.{Token}
use Rattle.sj_parse.specs.Escapes.{stop}
use Rattle.sj_parse.specs.Descent.{Left, left, Reader, then_read, at_token, unless, scalar_stop, begins_scalar, read_scalar, read_value, expect, item_end, more_items, read_items, read_member, expect_member, member_end, more_members, read_members, too_deep, value}
use Rattle.sj_parse.specs.inside.Trees.{Reading, with_rest, mapped, on_token, judged, decoded, token_tree, tree_of_value, tree_of_item_end, tree_of_more_items, tree_of_items, tree_of_member, tree_of_expected_member, tree_of_member_end, tree_of_more_members, tree_of_members, no_tree, tree_value}

-- what is left, without what was read
abbrev pub forget : {A : Type 0} → Reading A → Result Left Stop
forget (Ok p) = Ok p.1
forget (Err s) = Err s

-- ---- parts

if_same : {A : Type 0} (b : Bool) (x y : Result Left Stop) (s t : Reading A) → x ≡ forget s → y ≡ forget t → (if b then x else y) ≡ forget (if b then s else t)
if_same true x y s t e f = e
if_same false x y s t e f = f

forget-mapped : {A B : Type 0} (f : A → B) (r : Reading A) → forget (mapped f r) ≡ forget r
forget-mapped f (Ok p) = refl
forget-mapped f (Err s) = refl

forget-judged : {A : Type 0} (o : Option Stop) (x : A) (l : Left) → unless o l ≡ forget (judged o x l)
forget-judged None x l = refl
forget-judged (Some s) x l = refl

forget-on_token : {A : Type 0} (read : Token → List Token → Result Left Stop) (tree : Token → List Token → Reading A) → ((t : Token) (ts : List Token) → read t ts ≡ forget (tree t ts)) → (last : ℕ) (ts : List Token) → at_token read last ts ≡ forget (on_token tree last ts)
forget-on_token read tree same last [] = refl
forget-on_token read tree same last (t ∷ ts) = same t ts

forget-with_rest : {A B : Type 0} (r : Reading A) (read : Reader) (tree : A → ℕ → List Token → Reading B) → ((x : A) (last : ℕ) (ts : List Token) → read last ts ≡ forget (tree x last ts)) → then_read (forget r) read ≡ forget (with_rest r tree)
forget-with_rest (Ok p) read tree same = same p.0 p.1.last p.1.tokens
forget-with_rest (Err s) read tree same = refl

-- one part after the other
forget-then : {A B : Type 0} (l : Result Left Stop) (r : Reading A) (read : Reader) (tree : A → ℕ → List Token → Reading B) → l ≡ forget r → ((x : A) (last : ℕ) (ts : List Token) → read last ts ≡ forget (tree x last ts)) → then_read l read ≡ forget (with_rest r tree)
forget-then l r read tree e same = ap (λ x. then_read x read) e ∙ forget-with_rest r read tree same

-- ---- containers, where the parts read the same

abbrev TreeReader : Type 0
TreeReader = DescentKind → ℕ → List Token → Reading Tree

abbrev ReadsSame : (DescentKind → Reader) → TreeReader → Type 0
ReadsSame read tree = (kind : DescentKind) (last : ℕ) (ts : List Token) → read kind last ts ≡ forget (tree kind last ts)

module _ (read : DescentKind → Reader) (tree : TreeReader) (same : ReadsSame read tree) where
  pub forget-more_items : (n last : ℕ) (ts : List Token) → more_items read n last ts ≡ forget (tree_of_more_items tree n last ts)
  forget-more_items zero last ts = refl
  forget-more_items (suc n) last ts =
      forget-on_token (item_end read (more_items read n)) (tree_of_item_end tree (tree_of_more_items tree n)) (λ t rest.
      if_same (t.byte == 0x5d) _ _ (Ok (no_items, left t.place rest)) _ refl
      (if_same (t.byte == 0x2c) _ _ (with_rest (tree InternalError t.place rest) (λ x place others. mapped (item x) (tree_of_more_items tree n place others))) (Err (stop ExpectedArrayComma t.place))
      (forget-then (read InternalError t.place rest) (tree InternalError t.place rest) (more_items read n) (λ x place others. mapped (item x) (tree_of_more_items tree n place others)) (same InternalError t.place rest)
      (λ x place others. forget-more_items n place others ∙ sym (forget-mapped (item x) (tree_of_more_items tree n place others)))) refl)) last ts

  forget-items : (bracket : Token) (ts : List Token) → read_items read bracket ts ≡ forget (tree_of_items tree bracket ts)
  forget-items bracket ts =
      let more = λ (x : Tree) (place : ℕ) (rest : List Token). mapped (λ xs. list (item x xs)) (tree_of_more_items tree (length ts) place rest) in
      forget-on_token _ (λ t others. if t.byte == 0x5d then Ok (list no_items, left t.place others) else with_rest (tree ExpectedArrayContent bracket.place ts) more) (λ t others.
      if_same (t.byte == 0x5d) _ _ (Ok (list no_items, left t.place others)) (with_rest (tree ExpectedArrayContent bracket.place ts) more) refl
      (forget-then (read ExpectedArrayContent bracket.place ts) (tree ExpectedArrayContent bracket.place ts) (more_items read (length ts)) more (same ExpectedArrayContent bracket.place ts)
      (λ x place rest. forget-more_items (length ts) place rest ∙ sym (forget-mapped (λ xs. list (item x xs)) (tree_of_more_items tree (length ts) place rest))))) bracket.place ts

  forget-member : (key : Token) (ts : List Token) → read_member read key ts ≡ forget (tree_of_member tree key ts)
  forget-member key ts =
      forget-then (read_scalar key ts) (judged (scalar_stop key) (decoded key.text) (left key.place ts)) (expect 0x3a ExpectedObjectColon (read InternalError))
      (λ k last rest. on_token (λ t others. if t.byte == 0x3a then mapped (λ x. (k, x)) (tree InternalError t.place others) else Err (stop ExpectedObjectColon t.place)) last rest)
      (forget-judged (scalar_stop key) (decoded key.text) (left key.place ts))
      (λ k last rest. forget-on_token _ (λ t others. if t.byte == 0x3a then mapped (λ x. (k, x)) (tree InternalError t.place others) else Err (stop ExpectedObjectColon t.place)) (λ t others.
      if_same (t.byte == 0x3a) _ _ (mapped (λ x. (k, x)) (tree InternalError t.place others)) (Err (stop ExpectedObjectColon t.place))
      (same InternalError t.place others ∙ sym (forget-mapped (λ x. (k, x)) (tree InternalError t.place others))) refl) last rest)

  pub forget-expected_member : (kind : DescentKind) (t : Token) (ts : List Token) → expect_member read kind t ts ≡ forget (tree_of_expected_member tree kind t ts)
  forget-expected_member kind t ts = if_same (t.byte == 0x22) _ _ (tree_of_member tree t ts) (Err (stop kind t.place)) (forget-member t ts) refl

  pub forget-more_members : (n last : ℕ) (ts : List Token) → more_members read n last ts ≡ forget (tree_of_more_members tree n last ts)
  forget-more_members zero last ts = refl
  forget-more_members (suc n) last ts =
      let more = λ (m : List ℕ × Tree) (place : ℕ) (others : List Token). mapped (member m.0 m.1) (tree_of_more_members tree n place others) in
      forget-on_token (member_end read (more_members read n)) (tree_of_member_end tree (tree_of_more_members tree n)) (λ t rest.
      if_same (t.byte == 0x7d) _ _ (Ok (no_members, left t.place rest)) _ refl
      (if_same (t.byte == 0x2c) _ _ (with_rest (on_token (tree_of_expected_member tree ExpectedObjectKey) t.place rest) more) (Err (stop ExpectedMapComma t.place))
      (forget-then (at_token (expect_member read ExpectedObjectKey) t.place rest) (on_token (tree_of_expected_member tree ExpectedObjectKey) t.place rest) (more_members read n) more
      (forget-on_token (expect_member read ExpectedObjectKey) (tree_of_expected_member tree ExpectedObjectKey) (forget-expected_member ExpectedObjectKey) t.place rest)
      (λ m place others. forget-more_members n place others ∙ sym (forget-mapped (member m.0 m.1) (tree_of_more_members tree n place others)))) refl)) last ts

  forget-members : (brace : Token) (ts : List Token) → read_members read brace ts ≡ forget (tree_of_members tree brace ts)
  forget-members brace ts =
      let more = λ (m : List ℕ × Tree) (place : ℕ) (rest : List Token). mapped (λ ms. object (member m.0 m.1 ms)) (tree_of_more_members tree (length ts) place rest) in
      forget-on_token _ (λ t others. if t.byte == 0x7d then Ok (object no_members, left t.place others) else with_rest (tree_of_expected_member tree ExpectedObjectContent t others) more) (λ t others.
      if_same (t.byte == 0x7d) _ _ (Ok (object no_members, left t.place others)) (with_rest (tree_of_expected_member tree ExpectedObjectContent t others) more) refl
      (forget-then (expect_member read ExpectedObjectContent t others) (tree_of_expected_member tree ExpectedObjectContent t others) (more_members read (length ts)) more (forget-expected_member ExpectedObjectContent t others)
      (λ m place rest. forget-more_members (length ts) place rest ∙ sym (forget-mapped (λ ms. object (member m.0 m.1 ms)) (tree_of_more_members tree (length ts) place rest))))) brace.place ts

-- ---- values

module _ (list object : Token → List Token → Result Left Stop) (items members : Token → List Token → Reading Tree) (same_list : (t : Token) (ts : List Token) → list t ts ≡ forget (items t ts)) (same_object : (t : Token) (ts : List Token) → object t ts ≡ forget (members t ts)) where
  forget-value : (kind : DescentKind) (t : Token) (ts : List Token) → read_value list object kind t ts ≡ forget (tree_of_value items members kind t ts)
  forget-value kind t ts =
      let scalar = judged (scalar_stop t) (token_tree t) (left t.place ts) in
      let none : Reading Tree = Err (stop kind t.place) in
      if_same (t.byte == 0x5b) _ _ (items t ts) (if t.byte == 0x7b then members t ts else (if begins_scalar t.byte then scalar else none)) (same_list t ts)
      (if_same (t.byte == 0x7b) _ _ (members t ts) (if begins_scalar t.byte then scalar else none) (same_object t ts)
      (if_same (begins_scalar t.byte) _ _ scalar none (forget-judged (scalar_stop t) (token_tree t) (left t.place ts)) refl))

-- A stop of one is the stop of the other.
pub forget-tree_value : (limit : ℕ) (kind : DescentKind) (last : ℕ) (ts : List Token) → value limit kind last ts ≡ forget (tree_value limit kind last ts)
unfolding value tree_value
forget-tree_value zero kind last ts = forget-on_token (read_value too_deep too_deep kind) (tree_of_value no_tree no_tree kind) (forget-value too_deep too_deep no_tree no_tree (λ t rest. refl) (λ t rest. refl) kind) last ts
forget-tree_value (suc limit) kind last ts =
    let same = forget-tree_value limit in
    forget-on_token (read_value (read_items (value limit)) (read_members (value limit)) kind) (tree_of_value (tree_of_items (tree_value limit)) (tree_of_members (tree_value limit)) kind)
    (forget-value (read_items (value limit)) (read_members (value limit)) (tree_of_items (tree_value limit)) (tree_of_members (tree_value limit)) (forget-items (value limit) (tree_value limit) same) (forget-members (value limit) (tree_value limit) same) kind) last ts
