-- How deep a tree is after each edit, and a part of it.
use Rattle.std.proofs.Common.{◌≡◌, ℕ, zero, suc, ◌+◌, ◌≤◌, max, Bool, true, false, cond, List, [], ◌∷◌, length, Some, ap, arith}
use Rattle.std.specs.Str.{bytes_eq}
use Rattle.std.proofs.lemmas.Option.{none-some, same_Some, option_and_then_some}
use Rattle.sj_base.specs.Tree.{Tree, null, boolean, integer, decimal, string, list, object, Items, no_items, item, Members, no_members, member, depth, items_depth, members_depth}
use Rattle.sj_base.specs.Keep.{keep_items, keep_members, without}
use Rattle.sj_base.specs.Path.{Part, key, place, member_at, item_at, child, at, change_member, change_item, change_child, put}
use Rattle.sj_base.specs.Edit.{put_member, drop_member, push_item, pop_item}
use Rattle.sj_base.specs.Laws.{DepthWhenKept, DepthOfParts, DepthWhenPut, DepthWithMember, DepthWhenDropped, DepthWhenPushed, DepthWhenPopped}
use Rattle.sj_base.proofs.Keys.{found_either}

-- one of two lists of members
depth_either : (test : Bool) (ms ns : Members) (d : ℕ) → members_depth ms ≤ d → members_depth ns ≤ d → members_depth (cond test ms ns) ≤ d
depth_either true ms ns d here there = here
depth_either false ms ns d here there = there

-- Members without a key are no deeper.
depth_without : (k : List ℕ) (ms : Members) → members_depth (without k ms) ≤ members_depth ms
depth_without k no_members = omega arith
depth_without k (member n t ms) =
    let rest = depth_without k ms in
    depth_either (bytes_eq n k) (without k ms) (member n t (without k ms)) (max (depth t) (members_depth ms)) (omega arith) (omega arith)

-- `keep` makes no tree deeper, no items and no members.
mutual
  pub depth_when_kept : DepthWhenKept
  depth_when_kept null = omega arith
  depth_when_kept (boolean b) = omega arith
  depth_when_kept (integer n) = omega arith
  depth_when_kept (decimal literal) = omega arith
  depth_when_kept (string s) = omega arith
  depth_when_kept (list ts) = let rest = items_depth_when_kept ts in omega arith
  depth_when_kept (object ms) = let rest = members_depth_when_kept ms in omega arith

  items_depth_when_kept : (ts : Items) → items_depth (keep_items ts) ≤ items_depth ts
  items_depth_when_kept no_items = omega arith
  items_depth_when_kept (item t ts) = let first = depth_when_kept t in let rest = items_depth_when_kept ts in omega arith

  members_depth_when_kept : (ms : Members) → members_depth (keep_members ms) ≤ members_depth ms
  members_depth_when_kept no_members = omega arith
  members_depth_when_kept (member k t ms) =
      let first = depth_when_kept t in
      let rest = members_depth_when_kept ms in
      let others = depth_without k (keep_members ms) in
      omega arith

-- A member is no deeper than the deepest one.
depth_of_member : (ms : Members) (k : List ℕ) (part : Tree) → member_at ms k ≡ Some part → depth part ≤ members_depth ms
depth_of_member no_members k part found = absurd (none-some part found)
depth_of_member (member n t ms) k part found =
    found_either (λ u. depth u ≤ max (depth t) (members_depth ms)) (bytes_eq n k) t part (member_at ms k) found (λ same. omega arith)
    (λ behind. let rest = depth_of_member ms k part behind in omega arith)

-- Nor is an item.
depth_of_item : (ts : Items) (n : ℕ) (part : Tree) → item_at ts n ≡ Some part → depth part ≤ items_depth ts
depth_of_item no_items n part found = absurd (none-some part found)
depth_of_item (item t ts) zero part found = let same = ap depth (same_Some t part found) in omega arith
depth_of_item (item t ts) (suc n) part found = let rest = depth_of_item ts n part found in omega arith

-- What one step of a path selects is at least one level less deep.
depth_of_child : (t : Tree) (step : Part) (part : Tree) → child t step ≡ Some part → suc (depth part) ≤ depth t
depth_of_child (object ms) (key k) part found = let rest = depth_of_member ms k part found in omega arith
depth_of_child (list ts) (place n) part found = let rest = depth_of_item ts n part found in omega arith
depth_of_child _ _ part found = absurd (none-some part found)

-- The steps of a path count a level each.
pub depth_of_part : DepthOfParts
depth_of_part t [] part found = let same = ap depth (same_Some t part found) in omega arith
depth_of_part t (step ∷ path) part found =
    option_and_then_some (λ u. at u path) (child t step) part found
    (λ u is_child further. let above = depth_of_child t step u is_child in let below = depth_of_part u path part further in omega arith)

-- What makes trees at most d levels deep, or no deeper, may be done to a member, an item, or the part that one step
-- selects, which stands one level below.
module _ (change : Tree → Tree) (d : ℕ) (bound : (t : Tree) → depth (change t) ≤ max (depth t) d) where
  depth_change_member : (ms : Members) (k : List ℕ) → members_depth (change_member change ms k) ≤ max (members_depth ms) d
  depth_change_member no_members k = omega arith
  depth_change_member (member n t ms) k =
      let first = bound t in
      let rest = depth_change_member ms k in
      depth_either (bytes_eq n k) (member n (change t) ms) (member n t (change_member change ms k)) (max (max (depth t) (members_depth ms)) d) (omega arith) (omega arith)

  depth_change_item : (ts : Items) (n : ℕ) → items_depth (change_item change ts n) ≤ max (items_depth ts) d
  depth_change_item no_items n = omega arith
  depth_change_item (item t ts) zero = let first = bound t in omega arith
  depth_change_item (item t ts) (suc n) = let rest = depth_change_item ts n in omega arith

  depth_change_child : (t : Tree) (step : Part) → depth (change_child change t step) ≤ max (depth t) (suc d)
  depth_change_child (object ms) (key k) = let rest = depth_change_member ms k in omega arith
  depth_change_child (list ts) (place n) = let rest = depth_change_item ts n in omega arith
  depth_change_child (object ms) (place n) = omega arith
  depth_change_child (list ts) (key k) = omega arith
  depth_change_child null step = omega arith
  depth_change_child (boolean b) step = omega arith
  depth_change_child (integer n) step = omega arith
  depth_change_child (decimal literal) step = omega arith
  depth_change_child (string s) step = omega arith

-- A tree with a new part is no deeper than it was, or than the new part at the end of its path.
pub depth_when_put : DepthWhenPut
depth_when_put t [] new = omega arith
depth_when_put t (step ∷ path) new =
    let rest = depth_change_child (λ u. put u path new) (length path + depth new) (λ u. depth_when_put u path new) t step in
    omega arith

-- With a new member, members are no deeper than they were, or than the new one.
members_depth_put : (ms : Members) (k : List ℕ) (new : Tree) → members_depth (put_member ms k new) ≤ max (members_depth ms) (depth new)
members_depth_put no_members k new = omega arith
members_depth_put (member n t ms) k new =
    let rest = members_depth_put ms k new in
    depth_either (bytes_eq n k) (member n new ms) (member n t (put_member ms k new)) (max (max (depth t) (members_depth ms)) (depth new)) (omega arith) (omega arith)

-- The object is one level deeper.
pub depth_with_member : DepthWithMember
depth_with_member ms k new = let rest = members_depth_put ms k new in omega arith

-- Without a member, members are no deeper.
members_depth_dropped : (ms : Members) (k : List ℕ) → members_depth (drop_member ms k) ≤ members_depth ms
members_depth_dropped no_members k = omega arith
members_depth_dropped (member n t ms) k =
    let rest = members_depth_dropped ms k in
    depth_either (bytes_eq n k) ms (member n t (drop_member ms k)) (max (depth t) (members_depth ms)) (omega arith) (omega arith)

-- The object is one level deeper.
pub depth_when_dropped : DepthWhenDropped
depth_when_dropped ms k = let rest = members_depth_dropped ms k in omega arith

-- With a new item, items are as deep as they were, or as the new one.
items_depth_pushed : (ts : Items) (new : Tree) → items_depth (push_item ts new) ≡ max (items_depth ts) (depth new)
items_depth_pushed no_items new = omega arith
items_depth_pushed (item t ts) new = let rest = items_depth_pushed ts new in omega arith

-- The list is one level deeper.
pub depth_when_pushed : DepthWhenPushed
depth_when_pushed ts new = let rest = items_depth_pushed ts new in omega arith

-- Without the last item, items are no deeper.
items_depth_popped : (ts : Items) → items_depth (pop_item ts) ≤ items_depth ts
items_depth_popped no_items = omega arith
items_depth_popped (item t no_items) = omega arith
items_depth_popped (item t (item u us)) = let rest = items_depth_popped (item u us) in omega arith

-- The list is one level deeper.
pub depth_when_popped : DepthWhenPopped
depth_when_popped ts = let rest = items_depth_popped ts in omega arith
