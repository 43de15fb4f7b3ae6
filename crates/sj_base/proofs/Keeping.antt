-- `keep` of a tree is kept, and `keep` commutes with paths.
use Rattle.std.proofs.Common.{◌≡◌, ℕ, zero, suc, Bool, true, false, cond, List, [], ◌∷◌, Option, Some, None, refl, sym, ap, ◌∙◌}
use Rattle.std.specs.Prelude.{option_map, option_and_then}
use Rattle.std.specs.Str.{bytes_eq}
use Rattle.std.proofs.lemmas.Bool.{cond_both, cond-true, cond-false}
use Rattle.sj_base.specs.Tree.{Tree, null, boolean, integer, decimal, string, list, object, Items, no_items, item, Members, no_members, member}
use Rattle.sj_base.specs.Keep.{keep, keep_items, keep_members, without}
use Rattle.sj_base.specs.Path.{Part, key, place, member_at, item_at, child, at, change_member, change_item, change_child, put}
use Rattle.sj_base.specs.Laws.{KeepsOnce, KeepsParts, KeepsPut}
use Rattle.sj_base.proofs.Keys.{same_key, not_both}

-- A function of a choice is a choice.
choice_of : {A B : Type 0} (f : A → B) (test : Bool) (x y : A) → f (cond test x y) ≡ cond test (f x) (f y)
choice_of f true x y = refl
choice_of f false x y = refl

-- Two choices by one test are equal if they are so whatever the test says.
same_choice : {A : Type 0} (test : Bool) (x y z w : A) → (test ≡ true → x ≡ z) → (test ≡ false → y ≡ w) → cond test x y ≡ cond test z w
same_choice true x y z w here there = here refl
same_choice false x y z w here there = there refl

-- Two tests in either order
either_first : {A : Type 0} (p q : Bool) (x y : A) → cond p x (cond q x y) ≡ cond q x (cond p x y)
either_first true true x y = refl
either_first true false x y = refl
either_first false true x y = refl
either_first false false x y = refl

-- One test twice
one_test : {A : Type 0} (p : Bool) (x y : A) → cond p x (cond p x y) ≡ cond p x y
one_test true x y = refl
one_test false x y = refl

-- Two keys are left out in either order.
without_comm : (j k : List ℕ) (ms : Members) → without j (without k ms) ≡ without k (without j ms)
without_comm j k no_members = refl
without_comm j k (member n t ms) =
    let both = without k (without j ms) in
    choice_of (without j) (bytes_eq n k) (without k ms) (member n t (without k ms))
    ∙ ap (λ r. cond (bytes_eq n k) r (cond (bytes_eq n j) r (member n t r))) (without_comm j k ms)
    ∙ either_first (bytes_eq n k) (bytes_eq n j) both (member n t both)
    ∙ sym (choice_of (without k) (bytes_eq n j) (without j ms) (member n t (without j ms)))

-- It is enough to leave a key out once.
without_twice : (k : List ℕ) (ms : Members) → without k (without k ms) ≡ without k ms
without_twice k no_members = refl
without_twice k (member n t ms) =
    choice_of (without k) (bytes_eq n k) (without k ms) (member n t (without k ms))
    ∙ ap (λ r. cond (bytes_eq n k) r (cond (bytes_eq n k) r (member n t r))) (without_twice k ms)
    ∙ one_test (bytes_eq n k) (without k ms) (member n t (without k ms))

-- A key is left out before `keep` or after it.
pub keep_members-without : (k : List ℕ) (ms : Members) → keep_members (without k ms) ≡ without k (keep_members ms)
keep_members-without k no_members = refl
keep_members-without k (member n t ms) =
    let kept = keep_members ms in
    choice_of keep_members (bytes_eq n k) (without k ms) (member n t (without k ms))
    ∙ ap (λ r. cond (bytes_eq n k) r (member n (keep t) (without n r))) (keep_members-without k ms)
    ∙ same_choice (bytes_eq n k) (without k kept) (member n (keep t) (without n (without k kept))) (without k (without n kept)) (member n (keep t) (without k (without n kept)))
    (λ e. sym (ap (λ j. without k (without j kept)) (same_key n k e) ∙ without_twice k kept))
    (λ _. ap (member n (keep t)) (without_comm n k kept))

-- The members behind one of that key are kept.
rest_again : (k : List ℕ) (ms : Members) → keep_members ms ≡ ms → without k (keep_members (without k ms)) ≡ without k ms
rest_again k ms e = ap (without k) (keep_members-without k ms ∙ ap (without k) e) ∙ without_twice k ms

-- `keep` of a tree is kept.
mutual
  pub keeps_once : KeepsOnce
  keeps_once null = refl
  keeps_once (boolean b) = refl
  keeps_once (integer n) = refl
  keeps_once (decimal literal) = refl
  keeps_once (string s) = refl
  keeps_once (list ts) = ap list (keeps_items_once ts)
  keeps_once (object ms) = ap object (keeps_members_once ms)

  -- So are items,
  keeps_items_once : (ts : Items) → keep_items (keep_items ts) ≡ keep_items ts
  keeps_items_once no_items = refl
  keeps_items_once (item t ts) = ap (λ u. item u (keep_items (keep_items ts))) (keeps_once t) ∙ ap (item (keep t)) (keeps_items_once ts)

  -- and members.
  pub keeps_members_once : (ms : Members) → keep_members (keep_members ms) ≡ keep_members ms
  keeps_members_once no_members = refl
  keeps_members_once (member k t ms) =
      ap (λ u. member k u (without k (keep_members (without k (keep_members ms))))) (keeps_once t)
      ∙ ap (member k (keep t)) (rest_again k (keep_members ms) (keeps_members_once ms))

-- Leaving out one key hides no other.
member_at-without : (n k : List ℕ) (ms : Members) → bytes_eq n k ≡ false → member_at (without n ms) k ≡ member_at ms k
member_at-without n k no_members other = refl
member_at-without n k (member m t ms) other =
    let found = member_at-without n k ms other in
    cond_both (bytes_eq m n) (without n ms) (member m t (without n ms)) (λ ns. member_at ns k ≡ cond (bytes_eq m k) (Some t) (member_at ms k))
    (λ e. found ∙ sym (cond-false (bytes_eq m k) (Some t) (member_at ms k) (ap (λ j. bytes_eq j k) (same_key m n e) ∙ other)))
    (λ _. ap (cond (bytes_eq m k) (Some t)) found)

-- A key finds in kept members what is kept of the value that it finds before.
pub member_at-keep : (ms : Members) (k : List ℕ) → member_at (keep_members ms) k ≡ option_map keep (member_at ms k)
member_at-keep no_members k = refl
member_at-keep (member n t ms) k =
    same_choice (bytes_eq n k) (Some (keep t)) (member_at (without n (keep_members ms)) k) (Some (keep t)) (option_map keep (member_at ms k))
    (λ _. refl) (λ e. member_at-without n k (keep_members ms) e ∙ member_at-keep ms k)
    ∙ sym (choice_of (option_map keep) (bytes_eq n k) (Some t) (member_at ms k))

-- So does a place in kept items.
item_at-keep : (ts : Items) (n : ℕ) → item_at (keep_items ts) n ≡ option_map keep (item_at ts n)
item_at-keep no_items n = refl
item_at-keep (item t ts) zero = refl
item_at-keep (item t ts) (suc n) = item_at-keep ts n

-- So does one step of a path,
child-keep : (t : Tree) (part : Part) → child (keep t) part ≡ option_map keep (child t part)
child-keep (object ms) (key k) = member_at-keep ms k
child-keep (list ts) (place n) = item_at-keep ts n
child-keep (object ms) (place n) = refl
child-keep (list ts) (key k) = refl
child-keep null part = refl
child-keep (boolean b) part = refl
child-keep (integer n) part = refl
child-keep (decimal literal) part = refl
child-keep (string s) part = refl

-- the rest of a path,
further : (path : List Part) → ((u : Tree) → at (keep u) path ≡ option_map keep (at u path))
    → (o : Option Tree) → option_and_then (λ u. at u path) (option_map keep o) ≡ option_map keep (option_and_then (λ u. at u path) o)
further path ind None = refl
further path ind (Some u) = ind u

-- and so a path.
pub keeps_parts : KeepsParts
keeps_parts t [] = refl
keeps_parts t (part ∷ path) = ap (option_and_then (λ u. at u path)) (child-keep t part) ∙ further path (λ u. keeps_parts u path) (child t part)

-- A tree may be changed before `keep`, or after it by the other change.
abbrev Commute : (Tree → Tree) → (Tree → Tree) → Type 0
Commute change after = (u : Tree) → keep (change u) ≡ after (keep u)

module _ (change : Tree → Tree) (n k : List ℕ) (other : bytes_eq n k ≡ false) where
  -- the first member, whose key is one of the two or another
  change-without_at : (m : List ℕ) (t : Tree) (ms : Members)
      → without n (change_member change ms k) ≡ change_member change (without n ms) k → (p q : Bool) → bytes_eq m n ≡ p → bytes_eq m k ≡ q
      → without n (cond q (member m (change t) ms) (member m t (change_member change ms k))) ≡ change_member change (cond p (without n ms) (member m t (without n ms))) k
  change-without_at m t ms ind true true e f = not_both m n k e f other
  change-without_at m t ms ind true false e f =
      let changed = without n (change_member change ms k) in
      cond-true (bytes_eq m n) changed (member m t changed) e ∙ ind
  change-without_at m t ms ind false true e f =
      let others = without n ms in
      cond-false (bytes_eq m n) others (member m (change t) others) e
      ∙ sym (cond-true (bytes_eq m k) (member m (change t) others) (member m t (change_member change others k)) f)
  change-without_at m t ms ind false false e f =
      let others = without n ms in
      let changed = without n (change_member change ms k) in
      cond-false (bytes_eq m n) changed (member m t changed) e
      ∙ ap (member m t) ind
      ∙ sym (cond-false (bytes_eq m k) (member m (change t) others) (member m t (change_member change others k)) f)

  -- One key is left out before or after the member of another is changed.
  change-without : (ms : Members) → without n (change_member change ms k) ≡ change_member change (without n ms) k
  change-without no_members = refl
  change-without (member m t ms) = change-without_at m t ms (change-without ms) (bytes_eq m n) (bytes_eq m k) refl refl

module _ (change after : Tree → Tree) (same : Commute change after) where
  -- So may a member,
  change_member-keep : (ms : Members) (k : List ℕ) → keep_members (change_member change ms k) ≡ change_member after (keep_members ms) k
  change_member-keep no_members k = refl
  change_member-keep (member n t ms) k =
      let kept = keep_members ms in
      let changed = change_member change ms k in
      choice_of keep_members (bytes_eq n k) (member n (change t) ms) (member n t changed)
      ∙ same_choice (bytes_eq n k) (member n (keep (change t)) (without n kept)) (member n (keep t) (without n (keep_members changed)))
      (member n (after (keep t)) (without n kept)) (member n (keep t) (change_member after (without n kept) k))
      (λ _. ap (λ u. member n u (without n kept)) (same t))
      (λ e. ap (member n (keep t)) (ap (without n) (change_member-keep ms k) ∙ change-without after n k e kept))

  -- an item,
  change_item-keep : (ts : Items) (n : ℕ) → keep_items (change_item change ts n) ≡ change_item after (keep_items ts) n
  change_item-keep no_items n = refl
  change_item-keep (item t ts) zero = ap (λ u. item u (keep_items ts)) (same t)
  change_item-keep (item t ts) (suc n) = ap (item (keep t)) (change_item-keep ts n)

  -- and the part that one step selects.
  change_child-keep : (t : Tree) (part : Part) → keep (change_child change t part) ≡ change_child after (keep t) part
  change_child-keep (object ms) (key k) = ap object (change_member-keep ms k)
  change_child-keep (list ts) (place n) = ap list (change_item-keep ts n)
  change_child-keep (object ms) (place n) = refl
  change_child-keep (list ts) (key k) = refl
  change_child-keep null part = refl
  change_child-keep (boolean b) part = refl
  change_child-keep (integer n) part = refl
  change_child-keep (decimal literal) part = refl
  change_child-keep (string s) part = refl

-- A part may be replaced before `keep` or after it.
pub keeps_put : KeepsPut
keeps_put t [] new = refl
keeps_put t (part ∷ path) new = change_child-keep (λ u. put u path new) (λ u. put u path (keep new)) (λ u. keeps_put u path new) t part
