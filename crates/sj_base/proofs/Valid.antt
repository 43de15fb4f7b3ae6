-- Valid trees: what is kept of them, their parts, and what edits leave of them.
use Rattle.std.proofs.Common.{◌≡◌, ℕ, zero, suc, Bool, true, false, cond, List, [], ◌∷◌, Some, subst}
use Rattle.std.specs.Str.{bytes_eq}
use Rattle.std.proofs.lemmas.Option.{none-some, same_Some, option_and_then_some}
use Rattle.sj_base.specs.Tree.{Tree, null, boolean, integer, decimal, string, list, object, Items, no_items, item, Members, no_members, member, IsValidTree, AreValidItems, AreValidMembers}
use Rattle.sj_base.specs.Keep.{keep_items, keep_members, without}
use Rattle.sj_base.specs.Path.{Part, key, place, member_at, item_at, child, at, change_member, change_item, change_child, put}
use Rattle.sj_base.specs.Edit.{put_member, drop_member}
use Rattle.sj_base.specs.Laws.{ValidWhenKept, HoldsOfParts, HoldsOfLast, StaysWhenPut, ValidWithMember, StaysWhenDropped, StaysWhenPushed, StaysWhenPopped}
use Rattle.sj_base.proofs.Keys.{found_either}

-- one of two lists of members
valid_either : (test : Bool) (ms ns : Members) → AreValidMembers ms → AreValidMembers ns → AreValidMembers (cond test ms ns)
valid_either true ms ns here there = here
valid_either false ms ns here there = there

-- Valid members without a key are valid.
valid_without : (k : List ℕ) (ms : Members) → AreValidMembers ms → AreValidMembers (without k ms)
valid_without k no_members valid = tt
valid_without k (member n t ms) valid =
    let rest = valid_without k ms valid.2 in
    valid_either (bytes_eq n k) (without k ms) (member n t (without k ms)) rest (valid.0, valid.1, rest)

-- `keep` of a valid tree is valid, and of valid items and members.
mutual
  pub valid_when_kept : ValidWhenKept
  valid_when_kept null valid = tt
  valid_when_kept (boolean b) valid = tt
  valid_when_kept (integer n) valid = valid
  valid_when_kept (decimal literal) valid = valid
  valid_when_kept (string s) valid = valid
  valid_when_kept (list ts) valid = valid_items_when_kept ts valid
  valid_when_kept (object ms) valid = valid_members_when_kept ms valid

  valid_items_when_kept : (ts : Items) → AreValidItems ts → AreValidItems (keep_items ts)
  valid_items_when_kept no_items valid = tt
  valid_items_when_kept (item t ts) valid = (valid_when_kept t valid.0, valid_items_when_kept ts valid.1)

  valid_members_when_kept : (ms : Members) → AreValidMembers ms → AreValidMembers (keep_members ms)
  valid_members_when_kept no_members valid = tt
  valid_members_when_kept (member k t ms) valid = (valid.0, valid_when_kept t valid.1, valid_without k (keep_members ms) (valid_members_when_kept ms valid.2))

-- What is found among valid members is valid.
valid_member_at : (ms : Members) (k : List ℕ) (part : Tree) → AreValidMembers ms → member_at ms k ≡ Some part → IsValidTree part
valid_member_at no_members k part valid found = absurd (none-some part found)
valid_member_at (member n t ms) k part valid found =
    found_either IsValidTree (bytes_eq n k) t part (member_at ms k) found (λ same. valid.1) (λ behind. valid_member_at ms k part valid.2 behind)

-- So is an item of valid items,
valid_item_at : (ts : Items) (n : ℕ) (part : Tree) → AreValidItems ts → item_at ts n ≡ Some part → IsValidTree part
valid_item_at no_items n part valid found = absurd (none-some part found)
valid_item_at (item t ts) zero part valid found = subst IsValidTree (same_Some t part found) valid.0
valid_item_at (item t ts) (suc n) part valid found = valid_item_at ts n part valid.1 found

-- what one step of a path selects,
valid_child : (t : Tree) (step : Part) (part : Tree) → IsValidTree t → child t step ≡ Some part → IsValidTree part
valid_child (object ms) (key k) part valid found = valid_member_at ms k part valid found
valid_child (list ts) (place n) part valid found = valid_item_at ts n part valid found
valid_child _ _ part valid found = absurd (none-some part found)

-- and what a path selects.
pub valid_part : HoldsOfParts IsValidTree
valid_part t [] part valid found = subst IsValidTree (same_Some t part found) valid
valid_part t (step ∷ path) part valid found =
    option_and_then_some (λ u. at u path) (child t step) part found (λ u is_child further. valid_part u path part (valid_child t step u valid is_child) further)

-- The last item of a valid list is valid.
pub valid_last : HoldsOfLast IsValidTree
valid_last no_items last valid found = absurd (none-some last found)
valid_last (item t no_items) last valid found = subst IsValidTree (same_Some t last found) valid.0
valid_last (item t (item u us)) last valid found = valid_last (item u us) last valid.1 found

-- What leaves trees valid may be done to a member, an item, or the part that one step selects.
module _ (change : Tree → Tree) (stays : (t : Tree) → IsValidTree t → IsValidTree (change t)) where
  valid_change_member : (ms : Members) (k : List ℕ) → AreValidMembers ms → AreValidMembers (change_member change ms k)
  valid_change_member no_members k valid = tt
  valid_change_member (member n t ms) k valid =
      valid_either (bytes_eq n k) (member n (change t) ms) (member n t (change_member change ms k))
      (valid.0, stays t valid.1, valid.2) (valid.0, valid.1, valid_change_member ms k valid.2)

  valid_change_item : (ts : Items) (n : ℕ) → AreValidItems ts → AreValidItems (change_item change ts n)
  valid_change_item no_items n valid = tt
  valid_change_item (item t ts) zero valid = (stays t valid.0, valid.1)
  valid_change_item (item t ts) (suc n) valid = (valid.0, valid_change_item ts n valid.1)

  valid_change_child : (t : Tree) (step : Part) → IsValidTree t → IsValidTree (change_child change t step)
  valid_change_child (object ms) (key k) valid = valid_change_member ms k valid
  valid_change_child (list ts) (place n) valid = valid_change_item ts n valid
  valid_change_child (object ms) (place n) valid = valid
  valid_change_child (list ts) (key k) valid = valid
  valid_change_child null step valid = valid
  valid_change_child (boolean b) step valid = valid
  valid_change_child (integer n) step valid = valid
  valid_change_child (decimal literal) step valid = valid
  valid_change_child (string s) step valid = valid

-- A valid tree stays valid after a part is replaced by a valid tree.
pub valid_put : StaysWhenPut IsValidTree
valid_put t [] new valid valid_new = valid_new
valid_put t (step ∷ path) new valid valid_new = valid_change_child (λ u. put u path new) (λ u valid_u. valid_put u path new valid_u valid_new) t step valid

-- A valid object stays valid after a valid tree is put in it,
pub valid_with_member : ValidWithMember
valid_with_member no_members k new valid is_text valid_new = (is_text, valid_new, tt)
valid_with_member (member n t ms) k new valid is_text valid_new =
    valid_either (bytes_eq n k) (member n new ms) (member n t (put_member ms k new))
    (valid.0, valid_new, valid.2) (valid.0, valid.1, valid_with_member ms k new valid.2 is_text valid_new)

-- and after a member is dropped.
pub valid_dropped : StaysWhenDropped IsValidTree
valid_dropped no_members k valid = tt
valid_dropped (member n t ms) k valid =
    valid_either (bytes_eq n k) ms (member n t (drop_member ms k)) valid.2 (valid.0, valid.1, valid_dropped ms k valid.2)

-- A valid list stays valid after a valid tree is pushed,
pub valid_pushed : StaysWhenPushed IsValidTree
valid_pushed no_items new valid valid_new = (valid_new, tt)
valid_pushed (item t ts) new valid valid_new = (valid.0, valid_pushed ts new valid.1 valid_new)

-- and after the last item is popped.
pub valid_popped : StaysWhenPopped IsValidTree
valid_popped no_items valid = tt
valid_popped (item t no_items) valid = tt
valid_popped (item t (item u us)) valid = (valid.0, valid_popped (item u us) valid.1)
