-- The test `is_kept` holds of exactly the kept trees.
use Rattle.std.proofs.Common.{◌≡◌, true, Option, Some, None, is_some, refl, ap, ap₂}
use Rattle.std.specs.Prelude.{◌&&◌, not}
use Rattle.std.proofs.lemmas.Bool.{and_parts, and_from}
use Rattle.sj_base.specs.Keep.{keep, keep_items, keep_members, IsKept}
use Rattle.sj_base.specs.Path.{member_at}
use Rattle.sj_base.specs.Tree.{Tree, null, boolean, integer, decimal, string, list, object, Items, no_items, item, Members, no_members, member}
use Rattle.sj_base.proofs.Kept.{kept_member, kept_with, list_parts, object_parts, item_parts}
use Rattle.sj_scripts.specs.inside.KeptValues.{is_kept, are_kept_items, are_kept_members}

pub none_found : {A : Type 0} (o : Option A) → not (is_some o) ≡ true → o ≡ None
none_found None h = refl
none_found (Some a) h = absurd cc

mutual
  pub kept-found : (t : Tree) → is_kept t ≡ true → IsKept t
  kept-found null h = refl
  kept-found (boolean b) h = refl
  kept-found (integer n) h = refl
  kept-found (decimal literal) h = refl
  kept-found (string s) h = refl
  kept-found (list ts) h = ap list (items-found ts h)
  kept-found (object ms) h = ap object (members-found ms h)

  items-found : (ts : Items) → are_kept_items ts ≡ true → keep_items ts ≡ ts
  items-found no_items h = refl
  items-found (item t ts) h =
      let p = and_parts (is_kept t) (are_kept_items ts) h in
      ap₂ item (kept-found t p.0) (items-found ts p.1)

  members-found : (ms : Members) → are_kept_members ms ≡ true → keep_members ms ≡ ms
  members-found no_members h = refl
  members-found (member k t ms) h =
      let p = and_parts (is_kept t) (not (is_some (member_at ms k)) && are_kept_members ms) h in
      let q = and_parts (not (is_some (member_at ms k))) (are_kept_members ms) p.1 in
      kept_with k t ms (kept-found t p.0) (none_found (member_at ms k) q.0) (members-found ms q.1)

mutual
  pub kept-told : (t : Tree) → IsKept t → is_kept t ≡ true
  kept-told null h = refl
  kept-told (boolean b) h = refl
  kept-told (integer n) h = refl
  kept-told (decimal literal) h = refl
  kept-told (string s) h = refl
  kept-told (list ts) h = items-told ts (list_parts (keep_items ts) ts h)
  kept-told (object ms) h = members-told ms (object_parts (keep_members ms) ms h)

  items-told : (ts : Items) → keep_items ts ≡ ts → are_kept_items ts ≡ true
  items-told no_items h = refl
  items-told (item t ts) h =
      let p = item_parts (keep t) t (keep_items ts) ts h in
      and_from (is_kept t) (are_kept_items ts) (kept-told t p.0) (items-told ts p.1)

  members-told : (ms : Members) → keep_members ms ≡ ms → are_kept_members ms ≡ true
  members-told no_members h = refl
  members-told (member k t ms) h =
      let p = kept_member k t ms h in
      let new : not (is_some (member_at ms k)) ≡ true = ap (λ o. not (is_some o)) p.1 in
      and_from (is_kept t) (not (is_some (member_at ms k)) && are_kept_members ms) (kept-told t p.0)
      (and_from (not (is_some (member_at ms k))) (are_kept_members ms) new (members-told ms p.2))
