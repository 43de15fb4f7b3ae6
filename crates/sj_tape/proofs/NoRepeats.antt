-- A tree repeats no key exactly where it is kept as it is.
use Rattle.std.proofs.Common.{◌≡◌, ℕ, suc, Bool, true, false, cond, List, [], ◌∷◌, ◌++◌, Option, Some, None, bytes_eq, refl, sym, ap, ap₂, subst, ◌∙◌}
use Rattle.std.specs.Option.{option_or}
use Rattle.std.proofs.lemmas.Bool.{cond-false}
use Rattle.std.proofs.lemmas.Slice.Eq.{bytes_eq-Decides}
use Rattle.sj_base.specs.Keep.{keep, keep_items, keep_members, IsKept}
use Rattle.sj_base.specs.Path.{Part, key, place, member_at}
use Rattle.sj_base.specs.Tree.{Tree, null, boolean, integer, decimal, string, list, object, Items, no_items, item, Members, no_members, member}
use Rattle.sj_base.proofs.Kept.{list_parts, object_parts, item_parts, kept_member, kept_with}
use Rattle.sj_tape.specs.Laws.{RepeatsAndKeep}
use Rattle.sj_tape.specs.Repeats.{Repetition, one_level_out, is_among, repeated, repeated_in_items, repeated_in_members}
use Rattle.sj_tape.proofs.Repeating.{among_last}

-- ---- what is found in no part

none_of : {A : Type 0} (x y : Option A) → option_or x y ≡ None → (x ≡ None) × (y ≡ None)
none_of None y e = (refl, e)
none_of (Some a) y e = absurd cc

none_inside : (part : Part) (x : Option Repetition) → one_level_out part x ≡ None → x ≡ None
none_inside part None e = refl
none_inside part (Some r) e = absurd cc

new_key : (b : Bool) (r : Repetition) (x : Option Repetition) → cond b (Some r) x ≡ None → (b ≡ false) × (x ≡ None)
new_key true r x e = absurd cc
new_key false r x e = (refl, e)

-- ---- keys that stand earlier

same_key : (k : List ℕ) → bytes_eq k k ≡ true
same_key k = (bytes_eq-Decides k k).1 refl

last_among : (names : List (List ℕ)) (k : List ℕ) → is_among k (names ++ k ∷ []) ≡ true
last_among names k = sym (among_last names k k) ∙ ap (λ b. cond b true (is_among k names)) (same_key k)

either_true : (b : Bool) → cond b true true ≡ true
either_true true = refl
either_true false = refl

more_among : (names : List (List ℕ)) (k q : List ℕ) → is_among q names ≡ true → is_among q (names ++ k ∷ []) ≡ true
more_among names k q there = sym (among_last names k q) ∙ ap (λ b. cond (bytes_eq k q) true b) there ∙ either_true (bytes_eq k q)

-- No member has one of these keys.
abbrev Apart : List (List ℕ) → Members → Type 0
Apart names ms = (q : List ℕ) → is_among q names ≡ true → member_at ms q ≡ None

module _ (names : List (List ℕ)) (k : List ℕ) (t : Tree) (ms : Members) where
  -- one member more
  apart_at : (q : List ℕ) (b : Bool) → bytes_eq k q ≡ b → is_among k names ≡ false → is_among q names ≡ true → Apart (names ++ k ∷ []) ms → member_at (member k t ms) q ≡ None
  apart_at q true same new there rest = let is = ap (λ n. is_among n names) ((bytes_eq-Decides k q).0 same) in absurd cc
  apart_at q false other new there rest = cond-false (bytes_eq k q) (Some t) (member_at ms q) other ∙ rest q (more_among names k q there)

  -- and one less
  apart_from : (q : List ℕ) (b : Bool) → bytes_eq k q ≡ b → member_at ms k ≡ None → is_among q (names ++ k ∷ []) ≡ true → Apart names (member k t ms) → member_at ms q ≡ None
  apart_from q true same later there all = subst (λ n. member_at ms n ≡ None) ((bytes_eq-Decides k q).0 same) later
  apart_from q false other later there all =
      let earlier : is_among q names ≡ true = sym (cond-false (bytes_eq k q) true (is_among q names) other) ∙ among_last names k q ∙ there in
      sym (cond-false (bytes_eq k q) (Some t) (member_at ms q) other) ∙ all q earlier

  -- The first member's own key isn't among them.
  fresh : (b : Bool) → is_among k names ≡ b → Apart names (member k t ms) → is_among k names ≡ false
  fresh false new all = new
  fresh true there all =
      let none : member_at (member k t ms) k ≡ None = all k there in
      let some : member_at (member k t ms) k ≡ Some t = ap (λ b. cond b (Some t) (member_at ms k)) (same_key k) in
      absurd cc

-- ---- both ways

mutual
  kept_where : (t : Tree) → repeated t ≡ None → IsKept t
  kept_where null e = refl
  kept_where (boolean b) e = refl
  kept_where (integer n) e = refl
  kept_where (decimal literal) e = refl
  kept_where (string s) e = refl
  kept_where (list ts) e = ap list (items_kept 0 ts e)
  kept_where (object ms) e = ap object (members_kept [] ms e).0

  items_kept : (n : ℕ) (ts : Items) → repeated_in_items n ts ≡ None → keep_items ts ≡ ts
  items_kept n no_items e = refl
  items_kept n (item t ts) e =
      let none = none_of (one_level_out (place n) (repeated t)) (repeated_in_items (suc n) ts) e in
      ap₂ item (kept_where t (none_inside (place n) (repeated t) none.0)) (items_kept (suc n) ts none.1)

  members_kept : (names : List (List ℕ)) (ms : Members) → repeated_in_members names ms ≡ None → (keep_members ms ≡ ms) × Apart names ms
  members_kept names no_members e = (refl, λ q there. refl)
  members_kept names (member k t ms) e =
      let new = new_key (is_among k names) ([], k) (option_or (one_level_out (key k) (repeated t)) (repeated_in_members (names ++ k ∷ []) ms)) e in
      let none = none_of (one_level_out (key k) (repeated t)) (repeated_in_members (names ++ k ∷ []) ms) new.1 in
      let rest = members_kept (names ++ k ∷ []) ms none.1 in (
        kept_with k t ms (kept_where t (none_inside (key k) (repeated t) none.0)) (rest.1 k (last_among names k)) rest.0,
        λ q there. apart_at names k t ms q (bytes_eq k q) refl new.0 there rest.1,
      )

mutual
  none_where : (t : Tree) → IsKept t → repeated t ≡ None
  none_where null h = refl
  none_where (boolean b) h = refl
  none_where (integer n) h = refl
  none_where (decimal literal) h = refl
  none_where (string s) h = refl
  none_where (list ts) h = none_in_items 0 ts (list_parts (keep_items ts) ts h)
  none_where (object ms) h = none_in_members [] ms (object_parts (keep_members ms) ms h) (λ q there. absurd cc)

  none_in_items : (n : ℕ) (ts : Items) → keep_items ts ≡ ts → repeated_in_items n ts ≡ None
  none_in_items n no_items h = refl
  none_in_items n (item t ts) h =
      let parts = item_parts (keep t) t (keep_items ts) ts h in
      ap₂ (λ x y. option_or (one_level_out (place n) x) y) (none_where t parts.0) (none_in_items (suc n) ts parts.1)

  none_in_members : (names : List (List ℕ)) (ms : Members) → keep_members ms ≡ ms → Apart names ms → repeated_in_members names ms ≡ None
  none_in_members names no_members h apart = refl
  none_in_members names (member k t ms) h apart =
      let parts = kept_member k t ms h in
      let rest = none_in_members (names ++ k ∷ []) ms parts.2 (λ q there. apart_from names k t ms q (bytes_eq k q) refl parts.1 there apart) in
      ap (λ b. cond b (Some ([], k)) (option_or (one_level_out (key k) (repeated t)) (repeated_in_members (names ++ k ∷ []) ms))) (fresh names k t ms (is_among k names) refl apart)
      ∙ ap₂ (λ x y. option_or (one_level_out (key k) x) y) (none_where t parts.0) rest

pub repeats_and_keep : RepeatsAndKeep
repeats_and_keep t = (kept_where t, none_where t)
