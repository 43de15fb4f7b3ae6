-- What reads a value takes a token at least, so the number of steps in a container doesn't matter once it is large enough.
use Rattle.std.proofs.Common.{◌≡◌, ℕ, zero, suc, ◌<◌, ◌≤◌, Bool, true, false, List, [], ◌∷◌, length, Option, Some, None, Ok, Err, refl, ap, subst, arith}
use Rattle.std.specs.Prelude.{◌==◌, if◌then◌else◌}
use Rattle.sj_parse.specs.declared.descent_fault.DescentKind.{DescentKind}
use Rattle.sj_parse.specs.declared.descent_fault.DescentKind.TheVariants.{InternalError, ExpectedArrayContent, ExpectedObjectContent, ExpectedObjectKey, ExpectedObjectColon, ExpectedArrayComma, ExpectedMapComma}
use Rattle.sj_base.specs.Tree.{Tree, list, object, Items, no_items, item, Members, no_members, member}
use Rattle.sj_parse.specs.declared.descent_fault.Stop.{Stop}
use Rattle.sj_parse.specs.Token.{Token}
use Rattle.sj_parse.specs.Escapes.{stop}
use Rattle.sj_parse.specs.Descent.{Left, left, scalar_stop, begins_scalar}
use Rattle.sj_parse.specs.inside.Trees.{Reading, with_rest, mapped, on_token, judged, decoded, token_tree, tree_of_value, tree_of_item_end, tree_of_more_items, tree_of_items, tree_of_member, tree_of_expected_member, tree_of_member_end, tree_of_more_members, tree_of_members, no_tree, tree_value}

-- fewer tokens are left than the number, where something was read
abbrev pub LeavesFewer : {A : Type 0} → ℕ → Reading A → Type 0
LeavesFewer n (Ok p) = length p.1.tokens < n
LeavesFewer n (Err s) = Unit {0}

-- ---- parts

pub fewer_if : {A : Type 0} (b : Bool) (n : ℕ) (r s : Reading A) → LeavesFewer n r → LeavesFewer n s → LeavesFewer n (if b then r else s)
fewer_if true n r s h k = h
fewer_if false n r s h k = k

fewer_mapped : {A B : Type 0} (f : A → B) (n : ℕ) (r : Reading A) → LeavesFewer n r → LeavesFewer n (mapped f r)
fewer_mapped f n (Ok p) h = h
fewer_mapped f n (Err s) h = tt

pub fewer_weaker : {A : Type 0} (n m : ℕ) (r : Reading A) → n ≤ m → LeavesFewer n r → LeavesFewer m r
fewer_weaker n m (Ok p) le h = omega arith
fewer_weaker n m (Err s) le h = tt

pub fewer_judged : {A : Type 0} (o : Option Stop) (x : A) (place : ℕ) (ts : List Token) → LeavesFewer (suc (length ts)) (judged o x (left place ts))
fewer_judged None x place ts = omega arith
fewer_judged (Some s) x place ts = tt

pub fewer_on_token : {A : Type 0} (read : Token → List Token → Reading A) → ((t : Token) (ts : List Token) → LeavesFewer (suc (length ts)) (read t ts)) → (last : ℕ) (ts : List Token) → LeavesFewer (length ts) (on_token read last ts)
fewer_on_token read h last [] = tt
fewer_on_token read h last (t ∷ ts) = h t ts

pub fewer_then : {A B : Type 0} (n m : ℕ) (r : Reading A) (read : A → ℕ → List Token → Reading B) → LeavesFewer n r → ((x : A) (last : ℕ) (ts : List Token) → length ts < n → LeavesFewer m (read x last ts)) → LeavesFewer m (with_rest r read)
fewer_then n m (Ok p) read h k = k p.0 p.1.last p.1.tokens h
fewer_then n m (Err s) read h k = tt

-- two readers that read the same where fewer are left
pub same_then : {A B : Type 0} (n : ℕ) (r : Reading A) (f g : A → ℕ → List Token → Reading B) → LeavesFewer n r → ((x : A) (last : ℕ) (ts : List Token) → length ts < n → f x last ts ≡ g x last ts) → with_rest r f ≡ with_rest r g
same_then n (Ok p) f g h same = same p.0 p.1.last p.1.tokens h
same_then n (Err s) f g h same = refl

if_same : {A : Type 0} (b : Bool) (x s t : Reading A) → s ≡ t → (if b then x else s) ≡ (if b then x else t)
if_same b x s t e = ap (λ r. if b then x else r) e

if_same_first : {A : Type 0} (b : Bool) (x s t : Reading A) → s ≡ t → (if b then s else x) ≡ (if b then t else x)
if_same_first b x s t e = ap (λ r. if b then r else x) e

-- ---- containers, where a value takes a token

abbrev pub TreeReader : Type 0
TreeReader = DescentKind → ℕ → List Token → Reading Tree

abbrev pub TakesToken : TreeReader → Type 0
TakesToken tree = (kind : DescentKind) (last : ℕ) (ts : List Token) → LeavesFewer (length ts) (tree kind last ts)

module _ (tree : TreeReader) (takes : TakesToken tree) where
  fewer_more_items : (n last : ℕ) (ts : List Token) → LeavesFewer (length ts) (tree_of_more_items tree n last ts)
  fewer_more_items zero last ts = tt
  fewer_more_items (suc n) last ts =
      fewer_on_token (tree_of_item_end tree (tree_of_more_items tree n)) (λ t rest.
      let more = λ (x : Tree) (place : ℕ) (others : List Token). mapped (item x) (tree_of_more_items tree n place others) in
      let s : Reading Items = Err (stop ExpectedArrayComma t.place) in
      fewer_if (t.byte == 0x5d) (suc (length rest)) (Ok (no_items, left t.place rest)) (if t.byte == 0x2c then with_rest (tree InternalError t.place rest) more else s) (omega arith)
      (fewer_if (t.byte == 0x2c) (suc (length rest)) (with_rest (tree InternalError t.place rest) more) s
      (fewer_then (length rest) (suc (length rest)) (tree InternalError t.place rest) more (takes InternalError t.place rest)
      (λ x place others lt. fewer_mapped (item x) (suc (length rest)) (tree_of_more_items tree n place others)
      (fewer_weaker (length others) (suc (length rest)) (tree_of_more_items tree n place others) (omega arith) (fewer_more_items n place others)))) tt)) last ts

  fewer_items : (bracket : Token) (ts : List Token) → LeavesFewer (suc (length ts)) (tree_of_items tree bracket ts)
  fewer_items bracket ts =
      let more = λ (x : Tree) (place : ℕ) (rest : List Token). mapped (λ xs. list (item x xs)) (tree_of_more_items tree (length ts) place rest) in
      fewer_weaker (length ts) (suc (length ts)) (tree_of_items tree bracket ts) (omega arith)
      (at bracket.place ts (with_rest (tree ExpectedArrayContent bracket.place ts) more)
      (fewer_then (length ts) (length ts) (tree ExpectedArrayContent bracket.place ts) more (takes ExpectedArrayContent bracket.place ts)
      (λ x place others lt. fewer_mapped (λ xs. list (item x xs)) (length ts) (tree_of_more_items tree (length ts) place others)
      (fewer_weaker (length others) (length ts) (tree_of_more_items tree (length ts) place others) (omega arith) (fewer_more_items (length ts) place others)))))
    where
      at : (place : ℕ) (us : List Token) (r : Reading Tree) → LeavesFewer (length us) r → LeavesFewer (length us) (on_token (λ t others. if t.byte == 0x5d then Ok (list no_items, left t.place others) else r) place us)
      at place [] r h = tt
      at place (t ∷ us) r h = fewer_if (t.byte == 0x5d) (suc (length us)) (Ok (list no_items, left t.place us)) r (omega arith) h

  fewer_member : (key : Token) (ts : List Token) → LeavesFewer (suc (length ts)) (tree_of_member tree key ts)
  fewer_member key ts =
      fewer_then (suc (length ts)) (suc (length ts)) (judged (scalar_stop key) (decoded key.text) (left key.place ts)) _ (fewer_judged (scalar_stop key) (decoded key.text) key.place ts)
      (λ k last rest lt. fewer_weaker (length rest) (suc (length ts)) (on_token (λ t others. if t.byte == 0x3a then mapped (λ x. (k, x)) (tree InternalError t.place others) else Err (stop ExpectedObjectColon t.place)) last rest) (omega arith)
      (fewer_on_token (λ t others. if t.byte == 0x3a then mapped (λ x. (k, x)) (tree InternalError t.place others) else Err (stop ExpectedObjectColon t.place))
      (λ t others. fewer_if (t.byte == 0x3a) (suc (length others)) (mapped (λ x. (k, x)) (tree InternalError t.place others)) (Err (stop ExpectedObjectColon t.place))
      (fewer_mapped (λ x. (k, x)) (suc (length others)) (tree InternalError t.place others) (fewer_weaker (length others) (suc (length others)) (tree InternalError t.place others) (omega arith) (takes InternalError t.place others))) tt) last rest))

  pub fewer_expected_member : (kind : DescentKind) (t : Token) (ts : List Token) → LeavesFewer (suc (length ts)) (tree_of_expected_member tree kind t ts)
  fewer_expected_member kind t ts = fewer_if (t.byte == 0x22) (suc (length ts)) (tree_of_member tree t ts) (Err (stop kind t.place)) (fewer_member t ts) tt

  fewer_more_members : (n last : ℕ) (ts : List Token) → LeavesFewer (length ts) (tree_of_more_members tree n last ts)
  fewer_more_members zero last ts = tt
  fewer_more_members (suc n) last ts =
      fewer_on_token (tree_of_member_end tree (tree_of_more_members tree n)) (λ t rest.
      let more = λ (m : List ℕ × Tree) (place : ℕ) (others : List Token). mapped (member m.0 m.1) (tree_of_more_members tree n place others) in
      let first = on_token (tree_of_expected_member tree ExpectedObjectKey) t.place rest in
      let s : Reading Members = Err (stop ExpectedMapComma t.place) in
      fewer_if (t.byte == 0x7d) (suc (length rest)) (Ok (no_members, left t.place rest)) (if t.byte == 0x2c then with_rest first more else s) (omega arith)
      (fewer_if (t.byte == 0x2c) (suc (length rest)) (with_rest first more) s
      (fewer_then (length rest) (suc (length rest)) first more (fewer_on_token (tree_of_expected_member tree ExpectedObjectKey) (fewer_expected_member ExpectedObjectKey) t.place rest)
      (λ m place others lt. fewer_mapped (member m.0 m.1) (suc (length rest)) (tree_of_more_members tree n place others)
      (fewer_weaker (length others) (suc (length rest)) (tree_of_more_members tree n place others) (omega arith) (fewer_more_members n place others)))) tt)) last ts

  fewer_members : (brace : Token) (ts : List Token) → LeavesFewer (suc (length ts)) (tree_of_members tree brace ts)
  fewer_members brace ts =
      fewer_weaker (length ts) (suc (length ts)) (tree_of_members tree brace ts) (omega arith)
      (at brace.place ts (length ts) (omega arith))
    where
      at : (place : ℕ) (us : List Token) (n : ℕ) → length us ≤ n → LeavesFewer (length us) (on_token (λ t others. if t.byte == 0x7d then Ok (object no_members, left t.place others) else with_rest (tree_of_expected_member tree ExpectedObjectContent t others) (λ m last rest. mapped (λ ms. object (member m.0 m.1 ms)) (tree_of_more_members tree n last rest))) place us)
      at place [] n le = tt
      at place (t ∷ us) n le =
          let more = λ (m : List ℕ × Tree) (last : ℕ) (rest : List Token). mapped (λ ms. object (member m.0 m.1 ms)) (tree_of_more_members tree n last rest) in
          fewer_if (t.byte == 0x7d) (suc (length us)) (Ok (object no_members, left t.place us)) (with_rest (tree_of_expected_member tree ExpectedObjectContent t us) more) (omega arith)
          (fewer_then (suc (length us)) (suc (length us)) (tree_of_expected_member tree ExpectedObjectContent t us) more (fewer_expected_member ExpectedObjectContent t us)
          (λ m last rest lt. fewer_mapped (λ ms. object (member m.0 m.1 ms)) (suc (length us)) (tree_of_more_members tree n last rest)
          (fewer_weaker (length rest) (suc (length us)) (tree_of_more_members tree n last rest) (omega arith) (fewer_more_members n last rest))))

  -- ---- steps enough

  enough_items : (n m last : ℕ) (ts : List Token) → length ts ≤ n → length ts ≤ m → tree_of_more_items tree n last ts ≡ tree_of_more_items tree m last ts
  enough_items zero zero last ts a b = refl
  enough_items zero (suc m) last [] a b = refl
  enough_items zero (suc m) last (t ∷ ts) a b = absurd (omega arith)
  enough_items (suc n) zero last [] a b = refl
  enough_items (suc n) zero last (t ∷ ts) a b = absurd (omega arith)
  enough_items (suc n) (suc m) last [] a b = refl
  enough_items (suc n) (suc m) last (t ∷ ts) a b =
      let short : length ts ≤ n = omega arith in
      let shorter : length ts ≤ m = omega arith in
      let one = λ (x : Tree) (place : ℕ) (rest : List Token). mapped (item x) (tree_of_more_items tree n place rest) in
      let other = λ (x : Tree) (place : ℕ) (rest : List Token). mapped (item x) (tree_of_more_items tree m place rest) in
      let s : Reading Items = Err (stop ExpectedArrayComma t.place) in
      let first = tree InternalError t.place ts in
      if_same (t.byte == 0x5d) (Ok (no_items, left t.place ts)) (if t.byte == 0x2c then with_rest first one else s) (if t.byte == 0x2c then with_rest first other else s)
      (if_same_first (t.byte == 0x2c) s (with_rest first one) (with_rest first other)
      (same_then (length ts) first one other (takes InternalError t.place ts) (λ x place rest lt. ap (λ r. mapped (item x) r) (enough_items n m place rest (omega arith) (omega arith)))))

  enough_members : (n m last : ℕ) (ts : List Token) → length ts ≤ n → length ts ≤ m → tree_of_more_members tree n last ts ≡ tree_of_more_members tree m last ts
  enough_members zero zero last ts a b = refl
  enough_members zero (suc m) last [] a b = refl
  enough_members zero (suc m) last (t ∷ ts) a b = absurd (omega arith)
  enough_members (suc n) zero last [] a b = refl
  enough_members (suc n) zero last (t ∷ ts) a b = absurd (omega arith)
  enough_members (suc n) (suc m) last [] a b = refl
  enough_members (suc n) (suc m) last (t ∷ ts) a b =
      let short : length ts ≤ n = omega arith in
      let shorter : length ts ≤ m = omega arith in
      let one = λ (x : List ℕ × Tree) (place : ℕ) (rest : List Token). mapped (member x.0 x.1) (tree_of_more_members tree n place rest) in
      let other = λ (x : List ℕ × Tree) (place : ℕ) (rest : List Token). mapped (member x.0 x.1) (tree_of_more_members tree m place rest) in
      let s : Reading Members = Err (stop ExpectedMapComma t.place) in
      let first = on_token (tree_of_expected_member tree ExpectedObjectKey) t.place ts in
      if_same (t.byte == 0x7d) (Ok (no_members, left t.place ts)) (if t.byte == 0x2c then with_rest first one else s) (if t.byte == 0x2c then with_rest first other else s)
      (if_same_first (t.byte == 0x2c) s (with_rest first one) (with_rest first other)
      (same_then (length ts) first one other (fewer_on_token (tree_of_expected_member tree ExpectedObjectKey) (fewer_expected_member ExpectedObjectKey) t.place ts) (λ x place rest lt. ap (λ r. mapped (member x.0 x.1) r) (enough_members n m place rest (omega arith) (omega arith)))))

-- ---- values

module _ (items members : Token → List Token → Reading Tree) (fewer_list : (t : Token) (ts : List Token) → LeavesFewer (suc (length ts)) (items t ts)) (fewer_object : (t : Token) (ts : List Token) → LeavesFewer (suc (length ts)) (members t ts)) where
  fewer_value : (kind : DescentKind) (t : Token) (ts : List Token) → LeavesFewer (suc (length ts)) (tree_of_value items members kind t ts)
  fewer_value kind t ts =
      let scalar = judged (scalar_stop t) (token_tree t) (left t.place ts) in
      let none : Reading Tree = Err (stop kind t.place) in
      fewer_if (t.byte == 0x5b) (suc (length ts)) (items t ts) (if t.byte == 0x7b then members t ts else (if begins_scalar t.byte then scalar else none)) (fewer_list t ts)
      (fewer_if (t.byte == 0x7b) (suc (length ts)) (members t ts) (if begins_scalar t.byte then scalar else none) (fewer_object t ts)
      (fewer_if (begins_scalar t.byte) (suc (length ts)) scalar none (fewer_judged (scalar_stop t) (token_tree t) t.place ts) tt))

pub takes_token : (limit : ℕ) → TakesToken (tree_value limit)
unfolding tree_value
takes_token zero kind last ts = fewer_on_token (tree_of_value no_tree no_tree kind) (fewer_value no_tree no_tree (λ t rest. tt) (λ t rest. tt) kind) last ts
takes_token (suc limit) kind last ts =
    fewer_on_token (tree_of_value (tree_of_items (tree_value limit)) (tree_of_members (tree_value limit)) kind)
    (fewer_value (tree_of_items (tree_value limit)) (tree_of_members (tree_value limit)) (fewer_items (tree_value limit) (takes_token limit)) (fewer_members (tree_value limit) (takes_token limit)) kind) last ts

-- What is left behind a value is fewer tokens than before it.
pub shorter-tree_value : (limit : ℕ) (kind : DescentKind) (last : ℕ) (ts : List Token) (t : Tree) (l : Left) → tree_value limit kind last ts ≡ Ok (t, l) → length l.tokens < length ts
shorter-tree_value limit kind last ts t l e = subst (λ (r : Reading Tree). LeavesFewer (length ts) r) e (takes_token limit kind last ts)

pub shorter-member : (limit : ℕ) (kind : DescentKind) (last : ℕ) (ts : List Token) (m : List ℕ × Tree) (l : Left) → on_token (tree_of_expected_member (tree_value limit) kind) last ts ≡ Ok (m, l) → length l.tokens < length ts
shorter-member limit kind last ts m l e = subst (λ (r : Reading (List ℕ × Tree)). LeavesFewer (length ts) r) e (fewer_on_token (tree_of_expected_member (tree_value limit) kind) (fewer_expected_member (tree_value limit) (takes_token limit) kind) last ts)

-- Behind an item or a member any number of steps that is as large as that of the tokens does.
pub tree_of_more_items-enough : (limit n m last : ℕ) (ts : List Token) → length ts ≤ n → length ts ≤ m → tree_of_more_items (tree_value limit) n last ts ≡ tree_of_more_items (tree_value limit) m last ts
tree_of_more_items-enough limit = enough_items (tree_value limit) (takes_token limit)

pub tree_of_more_members-enough : (limit n m last : ℕ) (ts : List Token) → length ts ≤ n → length ts ≤ m → tree_of_more_members (tree_value limit) n last ts ≡ tree_of_more_members (tree_value limit) m last ts
tree_of_more_members-enough limit = enough_members (tree_value limit) (takes_token limit)
