-- Each step of stage two keeps the tree that the root comes to.
use Rattle.std.proofs.Common.{◌≡◌, ℕ, zero, suc, ◌-◌, ◌<◌, ◌≤◌, Bool, true, false, List, [], ◌∷◌, length, Option, Some, None, Ok, Err, refl, sym, ap, ◌∙◌, arith, subst}
use Rattle.std.specs.Prelude.{◌==◌, if◌then◌else◌}
use Rattle.sj_parse.specs.declared.descent_fault.DescentKind.{DescentKind}
use Rattle.sj_parse.specs.declared.descent_fault.DescentKind.TheVariants.{InternalError, Syntax, ExpectedArrayContent, ExpectedObjectContent, ExpectedObjectKey, ExpectedObjectColon}
use Rattle.sj_base.specs.Tree.{Tree, list, object, Items, no_items, item, Members, no_members, member}
use Rattle.sj_parse.specs.declared.descent_fault.Stop.{Stop}
use Rattle.sj_parse.specs.Token.{Token}
use Rattle.sj_parse.specs.Escapes.{stop}
use Rattle.sj_parse.specs.Descent.{left, scalar_stop, begins_scalar}
use Rattle.sj_parse.specs.inside.Trees.{Reading, with_rest, mapped, on_token, judged, decoded, token_tree, tree_of_value, tree_of_more_items, tree_of_items, tree_of_member, tree_of_expected_member, tree_of_more_members, tree_of_members, no_tree, tree_value}
use Rattle.sj_parse.specs.inside.Machine.{append_items, append_members, Waiting, array_of, object_of, value_next, first_item, item_end, first_member, key_next, colon_next, member_end, after_value, levels_inside, resume, value_reading, colon_reading, reading}
use Rattle.sj_parse.proofs.Shorter.{LeavesFewer, TreeReader, TakesToken, same_then, fewer_on_token, fewer_if, fewer_weaker, fewer_expected_member, takes_token, tree_of_more_items-enough, tree_of_more_members-enough}

-- ---- one part after the other

with_rest-with_rest : {A B C : Type 0} (r : Reading A) (f : A → ℕ → List Token → Reading B) (g : B → ℕ → List Token → Reading C) → with_rest (with_rest r f) g ≡ with_rest r (λ x last ts. with_rest (f x last ts) g)
with_rest-with_rest (Ok p) f g = refl
with_rest-with_rest (Err s) f g = refl

with_rest-mapped : {A B C : Type 0} (h : A → B) (r : Reading A) (g : B → ℕ → List Token → Reading C) → with_rest (mapped h r) g ≡ with_rest r (λ x last ts. g (h x) last ts)
with_rest-mapped h (Ok p) g = refl
with_rest-mapped h (Err s) g = refl

-- ---- items and members at the end

append_items-none : (xs : Items) → append_items xs no_items ≡ xs
append_items-none no_items = refl
append_items-none (item x xs) = ap (item x) (append_items-none xs)

append_items-one : (xs ys : Items) (x : Tree) → append_items (append_items xs (item x no_items)) ys ≡ append_items xs (item x ys)
append_items-one no_items ys x = refl
append_items-one (item z xs) ys x = ap (item z) (append_items-one xs ys x)

append_members-none : (ms : Members) → append_members ms no_members ≡ ms
append_members-none no_members = refl
append_members-none (member k t ms) = ap (member k t) (append_members-none ms)

append_members-one : (ms ns : Members) (k : List ℕ) (t : Tree) → append_members (append_members ms (member k t no_members)) ns ≡ append_members ms (member k t ns)
append_members-one no_members ns k t = refl
append_members-one (member j u ms) ns k t = ap (member j u) (append_members-one ms ns k t)

-- ---- a container or the root has its value

with_rest-same : {A B : Type 0} (r : Reading A) (f g : A → ℕ → List Token → Reading B) → ((x : A) (last : ℕ) (ts : List Token) → f x last ts ≡ g x last ts) → with_rest r f ≡ with_rest r g
with_rest-same (Ok p) f g same = same p.0 p.1.last p.1.tokens
with_rest-same (Err s) f g same = refl

pub resume-after_value : (limit : ℕ) (ws : List Waiting) (t : Tree) (last : ℕ) (ts : List Token) → resume limit ws t last ts ≡ reading limit (after_value ws t) last ts
resume-after_value limit [] t last ts = refl
resume-after_value limit (array_of xs ∷ ws) t last ts =
    with_rest-same (tree_of_more_items (tree_value (levels_inside limit ws)) (length ts) last ts)
    (λ ys place rest. resume limit ws (list (append_items xs (item t ys))) place rest)
    (λ ys place rest. resume limit ws (list (append_items (append_items xs (item t no_items)) ys)) place rest)
    (λ ys place rest. ap (λ (zs : Items). resume limit ws (list zs) place rest) (sym (append_items-one xs ys t)))
resume-after_value limit (object_of ms k ∷ ws) t last ts =
    with_rest-same (tree_of_more_members (tree_value (levels_inside limit ws)) (length ts) last ts)
    (λ ns place rest. resume limit ws (object (append_members ms (member k t ns))) place rest)
    (λ ns place rest. resume limit ws (object (append_members (append_members ms (member k t no_members)) ns)) place rest)
    (λ ns place rest. ap (λ (zs : Members). resume limit ws (object zs) place rest) (sym (append_members-one ms ns k t)))

-- ---- behind an item

module _ (limit : ℕ) (ws : List Waiting) (last : ℕ) (t : Token) (ts : List Token) where
  abbrev inner : TreeReader
  inner = tree_value (levels_inside limit ws)

  abbrev takes : TakesToken inner
  takes = takes_token (levels_inside limit ws)

  pub item_end-close : (xs : Items) → (t.byte == 0x5d) ≡ true → reading limit (item_end xs ws) last (t ∷ ts) ≡ resume limit ws (list xs) t.place ts
  item_end-close xs is = rw is (ap (λ (ys : Items). resume limit ws (list ys) t.place ts) (append_items-none xs))

  pub item_end-comma : (xs : Items) → (t.byte == 0x5d) ≡ false → (t.byte == 0x2c) ≡ true → reading limit (item_end xs ws) last (t ∷ ts) ≡ reading limit (value_next (array_of xs ∷ ws)) t.place ts
  item_end-comma xs no_close is =
      let value = inner InternalError t.place ts in
      let more = λ (n : ℕ) (place : ℕ) (rest : List Token). tree_of_more_items inner n place rest in
      let close = λ (ys : Items) (place : ℕ) (rest : List Token). resume limit ws (list (append_items xs ys)) place rest in
      rw (no_close, is)
      (with_rest-with_rest value (λ x place rest. mapped (item x) (more (length ts) place rest)) close
      ∙ same_then (length ts) value (λ x place rest. with_rest (mapped (item x) (more (length ts) place rest)) close) (resume limit (array_of xs ∷ ws)) (takes InternalError t.place ts)
      (λ x place rest lt.
      with_rest-mapped (item x) (more (length ts) place rest) close
      ∙ ap (λ (r : Reading Items). with_rest r (λ ys last rest. close (item x ys) last rest)) (tree_of_more_items-enough (levels_inside limit ws) (length ts) (length rest) place rest (omega arith) (omega arith))))

  -- behind `[`

  pub first_item-close : (t.byte == 0x5d) ≡ true → reading limit (first_item ws) last (t ∷ ts) ≡ resume limit ws (list no_items) t.place ts
  first_item-close is = rw is refl

  pub first_item-value : (t.byte == 0x5d) ≡ false → reading limit (first_item ws) last (t ∷ ts) ≡ value_reading limit ExpectedArrayContent (array_of no_items ∷ ws) last (t ∷ ts)
  first_item-value no_close =
      let value = inner ExpectedArrayContent last (t ∷ ts) in
      let more = λ (n : ℕ) (place : ℕ) (rest : List Token). tree_of_more_items inner n place rest in
      rw no_close
      (with_rest-with_rest value (λ x place rest. mapped (λ xs. list (item x xs)) (more (length (t ∷ ts)) place rest)) (resume limit ws)
      ∙ same_then (length (t ∷ ts)) value (λ x place rest. with_rest (mapped (λ xs. list (item x xs)) (more (length (t ∷ ts)) place rest)) (resume limit ws)) (resume limit (array_of no_items ∷ ws)) (takes ExpectedArrayContent last (t ∷ ts))
      (λ x place rest lt.
      with_rest-mapped (λ xs. list (item x xs)) (more (length (t ∷ ts)) place rest) (resume limit ws)
      ∙ ap (λ (r : Reading Items). with_rest r (λ ys last rest. resume limit ws (list (item x ys)) last rest)) (tree_of_more_items-enough (levels_inside limit ws) (length (t ∷ ts)) (length rest) place rest (omega arith) (omega arith))))

  -- ---- members

  abbrev keyed : List ℕ → Token → List Token → Reading (List ℕ × Tree)
  keyed k u us = if u.byte == 0x3a then mapped (λ x. (k, x)) (inner InternalError u.place us) else Err (stop ExpectedObjectColon u.place)

  -- the key waits for its value
  on_token-keyed : (k : List ℕ) (place : ℕ) (us : List Token) → on_token (keyed k) place us ≡ mapped {B = List ℕ × Tree} (λ x. (k, x)) (on_token (colon_reading inner) place us)
  on_token-keyed k place [] = refl
  on_token-keyed k place (u ∷ us) = choice (u.byte == 0x3a) (inner InternalError u.place us) (stop ExpectedObjectColon u.place)
    where
      choice : (b : Bool) (r : Reading Tree) (s : Stop) → (if b then mapped {B = List ℕ × Tree} (λ x. (k, x)) r else Err s) ≡ mapped {B = List ℕ × Tree} (λ x. (k, x)) (if b then r else Err s)
      choice true r s = refl
      choice false r s = refl

  fewer_colon : (u : Token) (us : List Token) → LeavesFewer (suc (length us)) (colon_reading inner u us)
  fewer_colon u us =
      fewer_if (u.byte == 0x3a) (suc (length us)) (inner InternalError u.place us) (Err (stop ExpectedObjectColon u.place))
      (fewer_weaker (length us) (suc (length us)) (inner InternalError u.place us) (omega arith) (takes InternalError u.place us)) tt

  -- the members behind one, with it
  abbrev members_with : Members → ℕ → List ℕ × Tree → ℕ → List Token → Reading Tree
  members_with ms n m place rest = with_rest (tree_of_more_members inner n place rest) (λ ns last rest. resume limit ws (object (append_members ms (member m.0 m.1 ns))) last rest)

  -- a member, from its key on
  pub member-key : (ms : Members) (n : ℕ) → length (t ∷ ts) ≤ n → scalar_stop t ≡ None → with_rest (tree_of_member inner t ts) (members_with ms n) ≡ reading limit (colon_next ms (decoded t.text) ws) t.place ts
  member-key ms n enough ok =
      let k = decoded t.text in
      let value = on_token (colon_reading inner) t.place ts in
      rw ok
      (ap (λ (r : Reading (List ℕ × Tree)). with_rest r (members_with ms n)) (on_token-keyed k t.place ts)
      ∙ with_rest-mapped (λ (x : Tree). (k, x)) value (members_with ms n)
      ∙ same_then (length ts) value (λ x place rest. members_with ms n (k, x) place rest) (resume limit (object_of ms k ∷ ws)) (fewer_on_token (colon_reading inner) fewer_colon t.place ts)
      (λ x place rest lt. ap (λ (r : Reading Members). with_rest r (λ ns last rest. resume limit ws (object (append_members ms (member k x ns))) last rest)) (tree_of_more_members-enough (levels_inside limit ws) n (length rest) place rest (omega arith) (omega arith))))

  pub member-bad_key : (ms : Members) (n : ℕ) (s : Stop) → scalar_stop t ≡ Some s → with_rest (tree_of_member inner t ts) (members_with ms n) ≡ Err s
  member-bad_key ms n s bad = rw bad refl

  -- the token begins a key
  member-expected : (kind : DescentKind) (ms : Members) → (t.byte == 0x22) ≡ true → with_rest (tree_of_expected_member inner kind t ts) (members_with ms (length (t ∷ ts))) ≡ with_rest (tree_of_member inner t ts) (members_with ms (length (t ∷ ts)))
  member-expected kind ms is = ap (λ (b : Bool). with_rest (if b then tree_of_member inner t ts else Err (stop kind t.place)) (members_with ms (length (t ∷ ts)))) is

  -- behind `{`

  pub first_member-close : (t.byte == 0x7d) ≡ true → reading limit (first_member ws) last (t ∷ ts) ≡ resume limit ws (object no_members) t.place ts
  first_member-close is = rw is refl

  first_member-member : (t.byte == 0x7d) ≡ false → reading limit (first_member ws) last (t ∷ ts) ≡ with_rest (tree_of_expected_member inner ExpectedObjectContent t ts) (members_with no_members (length (t ∷ ts)))
  first_member-member no_close =
      let first = tree_of_expected_member inner ExpectedObjectContent t ts in
      let more = λ (place : ℕ) (rest : List Token). tree_of_more_members inner (length (t ∷ ts)) place rest in
      rw no_close
      (with_rest-with_rest first (λ m place rest. mapped (λ ms. object (member m.0 m.1 ms)) (more place rest)) (resume limit ws)
      ∙ with_rest-same first (λ m place rest. with_rest (mapped (λ ms. object (member m.0 m.1 ms)) (more place rest)) (resume limit ws)) (members_with no_members (length (t ∷ ts)))
      (λ m place rest. with_rest-mapped (λ ms. object (member m.0 m.1 ms)) (more place rest) (resume limit ws)))

  pub first_member-key : (t.byte == 0x7d) ≡ false → (t.byte == 0x22) ≡ true → scalar_stop t ≡ None → reading limit (first_member ws) last (t ∷ ts) ≡ reading limit (colon_next no_members (decoded t.text) ws) t.place ts
  first_member-key no_close is ok = first_member-member no_close ∙ member-expected ExpectedObjectContent no_members is ∙ member-key no_members (length (t ∷ ts)) (omega arith) ok

  pub first_member-bad_key : (s : Stop) → (t.byte == 0x7d) ≡ false → (t.byte == 0x22) ≡ true → scalar_stop t ≡ Some s → reading limit (first_member ws) last (t ∷ ts) ≡ Err s
  first_member-bad_key s no_close is bad = first_member-member no_close ∙ member-expected ExpectedObjectContent no_members is ∙ member-bad_key no_members (length (t ∷ ts)) s bad

  -- behind a member

  pub member_end-close : (ms : Members) → (t.byte == 0x7d) ≡ true → reading limit (member_end ms ws) last (t ∷ ts) ≡ resume limit ws (object ms) t.place ts
  member_end-close ms is = rw is (ap (λ (ns : Members). resume limit ws (object ns) t.place ts) (append_members-none ms))

  pub member_end-comma : (ms : Members) → (t.byte == 0x7d) ≡ false → (t.byte == 0x2c) ≡ true → reading limit (member_end ms ws) last (t ∷ ts) ≡ reading limit (key_next ms ws) t.place ts
  member_end-comma ms no_close is =
      let first = on_token (tree_of_expected_member inner ExpectedObjectKey) t.place ts in
      let more = λ (n : ℕ) (place : ℕ) (rest : List Token). tree_of_more_members inner n place rest in
      let close = λ (ns : Members) (place : ℕ) (rest : List Token). resume limit ws (object (append_members ms ns)) place rest in
      rw (no_close, is)
      (with_rest-with_rest first (λ m place rest. mapped (member m.0 m.1) (more (length ts) place rest)) close
      ∙ same_then (length ts) first (λ m place rest. with_rest (mapped (member m.0 m.1) (more (length ts) place rest)) close) (λ m place rest. resume limit (object_of ms m.0 ∷ ws) m.1 place rest)
      (fewer_on_token (tree_of_expected_member inner ExpectedObjectKey) (fewer_expected_member inner takes ExpectedObjectKey) t.place ts)
      (λ m place rest lt.
      with_rest-mapped (member m.0 m.1) (more (length ts) place rest) close
      ∙ ap (λ (r : Reading Members). with_rest r (λ ns last rest. close (member m.0 m.1 ns) last rest)) (tree_of_more_members-enough (levels_inside limit ws) (length ts) (length rest) place rest (omega arith) (omega arith))))

  -- behind a comma in an object

  key_next-member : (ms : Members) → reading limit (key_next ms ws) last (t ∷ ts) ≡ with_rest (tree_of_expected_member inner ExpectedObjectKey t ts) (members_with ms (length (t ∷ ts)))
  key_next-member ms =
      let first = tree_of_expected_member inner ExpectedObjectKey t ts in
      same_then (suc (length ts)) first (λ m place rest. resume limit (object_of ms m.0 ∷ ws) m.1 place rest) (members_with ms (length (t ∷ ts))) (fewer_expected_member inner takes ExpectedObjectKey t ts)
      (λ m place rest lt. ap (λ (r : Reading Members). with_rest r (λ ns last rest. resume limit ws (object (append_members ms (member m.0 m.1 ns))) last rest)) (tree_of_more_members-enough (levels_inside limit ws) (length rest) (length (t ∷ ts)) place rest (omega arith) (omega arith)))

  pub key_next-key : (ms : Members) → (t.byte == 0x22) ≡ true → scalar_stop t ≡ None → reading limit (key_next ms ws) last (t ∷ ts) ≡ reading limit (colon_next ms (decoded t.text) ws) t.place ts
  key_next-key ms is ok = key_next-member ms ∙ member-expected ExpectedObjectKey ms is ∙ member-key ms (length (t ∷ ts)) (omega arith) ok

  pub key_next-bad_key : (ms : Members) (s : Stop) → (t.byte == 0x22) ≡ true → scalar_stop t ≡ Some s → reading limit (key_next ms ws) last (t ∷ ts) ≡ Err s
  key_next-bad_key ms s is bad = key_next-member ms ∙ member-expected ExpectedObjectKey ms is ∙ member-bad_key ms (length (t ∷ ts)) s bad

  -- behind a key

  pub colon_next-colon : (ms : Members) (k : List ℕ) → (t.byte == 0x3a) ≡ true → reading limit (colon_next ms k ws) last (t ∷ ts) ≡ reading limit (value_next (object_of ms k ∷ ws)) t.place ts
  colon_next-colon ms k is = rw is refl

-- ---- a value

value-levels : (n : ℕ) (kind : DescentKind) (last : ℕ) (t : Token) (ts : List Token) → tree_value (suc n) kind last (t ∷ ts) ≡ tree_of_value (tree_of_items (tree_value n)) (tree_of_members (tree_value n)) kind t ts
unfolding tree_value
value-levels n kind last t ts = refl

value-no_levels : (kind : DescentKind) (last : ℕ) (t : Token) (ts : List Token) → tree_value zero kind last (t ∷ ts) ≡ tree_of_value no_tree no_tree kind t ts
unfolding tree_value
value-no_levels kind last t ts = refl

-- whatever reads containers
value-any : (P : Reading Tree → Type 0) (n : ℕ) (kind : DescentKind) (last : ℕ) (t : Token) (ts : List Token) → ((items members : Token → List Token → Reading Tree) → P (tree_of_value items members kind t ts)) → P (tree_value n kind last (t ∷ ts))
value-any P zero kind last t ts h = subst P (sym (value-no_levels kind last t ts)) (h no_tree no_tree)
value-any P (suc n) kind last t ts h = subst P (sym (value-levels n kind last t ts)) (h (tree_of_items (tree_value n)) (tree_of_members (tree_value n)))

module _ (limit : ℕ) (kind : DescentKind) (ws : List Waiting) (last : ℕ) (t : Token) (ts : List Token) where
  inside : length ws < limit → value_reading limit kind ws last (t ∷ ts) ≡ with_rest (tree_of_value (tree_of_items (tree_value (levels_inside limit ws))) (tree_of_members (tree_value (levels_inside limit ws))) kind t ts) (resume limit ws)
  inside room =
      let levels : limit - length ws ≡ suc (levels_inside limit ws) = omega arith in
      ap (λ (n : ℕ). with_rest (tree_value n kind last (t ∷ ts)) (resume limit ws)) levels
      ∙ ap (λ (r : Reading Tree). with_rest r (resume limit ws)) (value-levels (levels_inside limit ws) kind last t ts)

  deep : limit ≤ length ws → value_reading limit kind ws last (t ∷ ts) ≡ with_rest (tree_of_value no_tree no_tree kind t ts) (resume limit ws)
  deep full =
      let levels : limit - length ws ≡ zero = omega arith in
      ap (λ (n : ℕ). with_rest (tree_value n kind last (t ∷ ts)) (resume limit ws)) levels
      ∙ ap (λ (r : Reading Tree). with_rest r (resume limit ws)) (value-no_levels kind last t ts)

  pub value-list : length ws < limit → (t.byte == 0x5b) ≡ true → value_reading limit kind ws last (t ∷ ts) ≡ reading limit (first_item ws) t.place ts
  value-list room is = inside room ∙ rw is refl

  pub value-deep_list : limit ≤ length ws → (t.byte == 0x5b) ≡ true → value_reading limit kind ws last (t ∷ ts) ≡ Err (stop Syntax t.place)
  value-deep_list full is = deep full ∙ rw is refl

  pub value-object : length ws < limit → (t.byte == 0x5b) ≡ false → (t.byte == 0x7b) ≡ true → value_reading limit kind ws last (t ∷ ts) ≡ reading limit (first_member ws) t.place ts
  value-object room no_list is = inside room ∙ rw (no_list, is) refl

  pub value-deep_object : limit ≤ length ws → (t.byte == 0x5b) ≡ false → (t.byte == 0x7b) ≡ true → value_reading limit kind ws last (t ∷ ts) ≡ Err (stop Syntax t.place)
  value-deep_object full no_list is = deep full ∙ rw (no_list, is) refl

  -- what is no container
  scalar-or_none : (items members : Token → List Token → Reading Tree) → (t.byte == 0x5b) ≡ false → (t.byte == 0x7b) ≡ false → tree_of_value items members kind t ts ≡ (if begins_scalar t.byte then judged (scalar_stop t) (token_tree t) (left t.place ts) else Err (stop kind t.place))
  scalar-or_none items members no_list no_object =
      let scalar = judged (scalar_stop t) (token_tree t) (left t.place ts) in
      let last_choice = (if begins_scalar t.byte then scalar else Err (stop kind t.place)) in
      ap (λ (b : Bool). if b then items t ts else (if t.byte == 0x7b then members t ts else last_choice)) no_list
      ∙ ap (λ (b : Bool). if b then members t ts else last_choice) no_object

  pub value-scalar : (t.byte == 0x5b) ≡ false → (t.byte == 0x7b) ≡ false → begins_scalar t.byte ≡ true → scalar_stop t ≡ None → value_reading limit kind ws last (t ∷ ts) ≡ resume limit ws (token_tree t) t.place ts
  value-scalar no_list no_object is ok =
      value-any (λ (r : Reading Tree). with_rest r (resume limit ws) ≡ resume limit ws (token_tree t) t.place ts) (limit - length ws) kind last t ts (λ items members.
      ap (λ (r : Reading Tree). with_rest r (resume limit ws)) (scalar-or_none items members no_list no_object)
      ∙ ap (λ (b : Bool). with_rest (if b then judged (scalar_stop t) (token_tree t) (left t.place ts) else Err (stop kind t.place)) (resume limit ws)) is
      ∙ ap (λ (o : Option Stop). with_rest (judged o (token_tree t) (left t.place ts)) (resume limit ws)) ok)

  pub value-bad_scalar : (s : Stop) → (t.byte == 0x5b) ≡ false → (t.byte == 0x7b) ≡ false → begins_scalar t.byte ≡ true → scalar_stop t ≡ Some s → value_reading limit kind ws last (t ∷ ts) ≡ Err s
  value-bad_scalar s no_list no_object is bad =
      value-any (λ (r : Reading Tree). with_rest r (resume limit ws) ≡ Err s) (limit - length ws) kind last t ts (λ items members.
      ap (λ (r : Reading Tree). with_rest r (resume limit ws)) (scalar-or_none items members no_list no_object)
      ∙ ap (λ (b : Bool). with_rest (if b then judged (scalar_stop t) (token_tree t) (left t.place ts) else Err (stop kind t.place)) (resume limit ws)) is
      ∙ ap (λ (o : Option Stop). with_rest (judged o (token_tree t) (left t.place ts)) (resume limit ws)) bad)

  pub value-none : (t.byte == 0x5b) ≡ false → (t.byte == 0x7b) ≡ false → begins_scalar t.byte ≡ false → value_reading limit kind ws last (t ∷ ts) ≡ Err (stop kind t.place)
  value-none no_list no_object no_scalar =
      value-any (λ (r : Reading Tree). with_rest r (resume limit ws) ≡ Err (stop kind t.place)) (limit - length ws) kind last t ts (λ items members.
      ap (λ (r : Reading Tree). with_rest r (resume limit ws)) (scalar-or_none items members no_list no_object)
      ∙ ap (λ (b : Bool). with_rest (if b then judged (scalar_stop t) (token_tree t) (left t.place ts) else Err (stop kind t.place)) (resume limit ws)) no_scalar)
