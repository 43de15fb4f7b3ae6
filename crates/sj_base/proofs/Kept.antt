-- Kept trees: their parts, and what edits leave of them.
use Rattle.std.proofs.Common.{◌≡◌, ℕ, false, List, Some, None, refl, sym, ap, subst, ◌∙◌}
use Rattle.std.specs.Prelude.{option_map}
use Rattle.std.specs.Str.{bytes_eq}
use Rattle.std.proofs.lemmas.Bool.{cond_both, cond-false}
use Rattle.std.proofs.lemmas.Option.{none-some, same_Some}
use Rattle.sj_base.specs.Tree.{Tree, list, object, Items, no_items, item, Members, no_members, member}
use Rattle.sj_base.specs.Keep.{keep, keep_items, keep_members, without, IsKept}
use Rattle.sj_base.specs.Path.{member_at, at, put}
use Rattle.sj_base.specs.Edit.{put_member, drop_member, push_item, last_item, pop_item}
use Rattle.sj_base.specs.Laws.{HoldsOfParts, HoldsOfLast, StaysWhenPut, KeptWithMember, StaysWhenDropped, StaysWhenPushed, StaysWhenPopped}
use Rattle.sj_base.proofs.Keys.{key_flip, found_nowhere}
use Rattle.sj_base.proofs.Keeping.{keep_members-without, keeps_members_once, member_at-keep, keeps_parts, keeps_put}

-- Equal containers have equal parts.
pub list_parts : (ts us : Items) → list ts ≡ list us → ts ≡ us
list_parts ts us e = cc

pub object_parts : (ms ns : Members) → object ms ≡ object ns → ms ≡ ns
object_parts ms ns e = cc

pub item_parts : (t u : Tree) (ts us : Items) → item t ts ≡ item u us → (t ≡ u) × (ts ≡ us)
item_parts t u ts us e = (cc, cc)

member_parts : (k : List ℕ) (t u : Tree) (ms ns : Members) → member k t ms ≡ member k u ns → (t ≡ u) × (ms ≡ ns)
member_parts k t u ms ns e = (cc, cc)

-- A key that is left out isn't found.
member_at-own : (k : List ℕ) (ms : Members) → member_at (without k ms) k ≡ None
member_at-own k no_members = refl
member_at-own k (member n t ms) =
    cond_both (bytes_eq n k) (without k ms) (member n t (without k ms)) (λ ns. member_at ns k ≡ None)
    (λ _. member_at-own k ms) (λ e. cond-false (bytes_eq n k) (Some t) (member_at (without k ms) k) e ∙ member_at-own k ms)

-- A key that isn't found need not be left out.
without-none : (k : List ℕ) (ms : Members) → member_at ms k ≡ None → without k ms ≡ ms
without-none k no_members none = refl
without-none k (member n t ms) none =
    let parts = found_nowhere (bytes_eq n k) t (member_at ms k) none in
    cond-false (bytes_eq n k) (without k ms) (member n t (without k ms)) parts.0 ∙ ap (member n t) (without-none k ms parts.1)

-- In kept members no later one has the first one's key, and each value is kept.
pub kept_member : (k : List ℕ) (t : Tree) (ms : Members) → keep_members (member k t ms) ≡ member k t ms → IsKept t × (member_at ms k ≡ None) × (keep_members ms ≡ ms)
kept_member k t ms kept =
    let parts = member_parts k (keep t) t (without k (keep_members ms)) ms kept in (
      parts.0,
      sym (ap (λ ns. member_at ns k) parts.1) ∙ member_at-own k (keep_members ms),
      sym (ap keep_members parts.1) ∙ keep_members-without k (keep_members ms) ∙ ap (without k) (keeps_members_once ms) ∙ parts.1,
    )

-- One more member with a new key leaves members kept.
pub kept_with : (k : List ℕ) (t : Tree) (ms : Members) → IsKept t → member_at ms k ≡ None → keep_members ms ≡ ms → keep_members (member k t ms) ≡ member k t ms
kept_with k t ms value none kept =
    ap (λ u. member k u (without k (keep_members ms))) value ∙ ap (member k t) (ap (without k) kept ∙ without-none k ms none)

-- What is found by key is kept.
pub kept_found : (ms : Members) (k : List ℕ) (t : Tree) → keep_members ms ≡ ms → member_at ms k ≡ Some t → IsKept t
kept_found ms k t kept found =
    same_Some (keep t) t (sym (ap (option_map keep) found) ∙ sym (member_at-keep ms k) ∙ ap (λ ns. member_at ns k) kept ∙ found)

-- So is what a path selects.
pub kept_part : HoldsOfParts IsKept
kept_part t path part kept found =
    same_Some (keep part) part (sym (ap (option_map keep) found) ∙ sym (keeps_parts t path) ∙ ap (λ u. at u path) kept ∙ found)

-- The last of kept items is kept.
kept_last_item : (ts : Items) (last : Tree) → keep_items ts ≡ ts → last_item ts ≡ Some last → IsKept last
kept_last_item no_items last kept found = absurd (none-some last found)
kept_last_item (item t no_items) last kept found = subst IsKept (same_Some t last found) (item_parts (keep t) t no_items no_items kept).0
kept_last_item (item t (item u us)) last kept found = kept_last_item (item u us) last (item_parts (keep t) t (keep_items (item u us)) (item u us) kept).1 found

-- So is that of a kept list.
pub kept_last : HoldsOfLast IsKept
kept_last ts last kept found = kept_last_item ts last (list_parts (keep_items ts) ts kept) found

-- A kept tree stays kept after a part is replaced by a kept tree.
pub kept_put : StaysWhenPut IsKept
kept_put t path new kept kept_new =
    keeps_put t path new ∙ ap (λ u. put u path (keep new)) kept ∙ ap (put t path) kept_new

-- A key that isn't there stays away if another one is put.
none_put : (k : List ℕ) (new : Tree) (n : List ℕ) (ms : Members) → bytes_eq n k ≡ false → member_at ms n ≡ None → member_at (put_member ms k new) n ≡ None
none_put k new n no_members other none = cond-false (bytes_eq k n) (Some new) None (key_flip n k false other)
none_put k new n (member m t ms) other none =
    let parts = found_nowhere (bytes_eq m n) t (member_at ms n) none in
    let more = put_member ms k new in
    cond_both (bytes_eq m k) (member m new ms) (member m t more) (λ ns. member_at ns n ≡ None)
    (λ _. cond-false (bytes_eq m n) (Some new) (member_at ms n) parts.0 ∙ parts.1)
    (λ _. cond-false (bytes_eq m n) (Some t) (member_at more n) parts.0 ∙ none_put k new n ms other parts.1)

-- Kept members stay kept after a kept tree is put.
kept_members_put : (k : List ℕ) (new : Tree) → IsKept new → (ms : Members) → keep_members ms ≡ ms → keep_members (put_member ms k new) ≡ put_member ms k new
kept_members_put k new kept_new no_members kept = ap (λ u. member k u no_members) kept_new
kept_members_put k new kept_new (member n t ms) kept =
    let parts = kept_member n t ms kept in
    let more = put_member ms k new in
    cond_both (bytes_eq n k) (member n new ms) (member n t more) (λ ns. keep_members ns ≡ ns)
    (λ _. kept_with n new ms kept_new parts.1 parts.2)
    (λ e. kept_with n t more parts.0 (none_put k new n ms e parts.1) (kept_members_put k new kept_new ms parts.2))

-- A kept object stays kept after a kept tree is put in it.
pub kept_with_member : KeptWithMember
kept_with_member ms k new kept kept_new = ap object (kept_members_put k new kept_new ms (object_parts (keep_members ms) ms kept))

-- Kept items stay kept after a kept tree is pushed.
kept_pushed_items : (new : Tree) → IsKept new → (ts : Items) → keep_items ts ≡ ts → keep_items (push_item ts new) ≡ push_item ts new
kept_pushed_items new kept_new no_items kept = ap (λ u. item u no_items) kept_new
kept_pushed_items new kept_new (item t ts) kept =
    let parts = item_parts (keep t) t (keep_items ts) ts kept in
    ap (λ u. item u (keep_items (push_item ts new))) parts.0 ∙ ap (item t) (kept_pushed_items new kept_new ts parts.1)

-- So does a list.
pub kept_pushed : StaysWhenPushed IsKept
kept_pushed ts new kept kept_new = ap list (kept_pushed_items new kept_new ts (list_parts (keep_items ts) ts kept))

-- A key that isn't there stays away if a member is dropped.
none_dropped : (n k : List ℕ) (ms : Members) → member_at ms n ≡ None → member_at (drop_member ms k) n ≡ None
none_dropped n k no_members none = refl
none_dropped n k (member m t ms) none =
    let parts = found_nowhere (bytes_eq m n) t (member_at ms n) none in
    let more = drop_member ms k in
    cond_both (bytes_eq m k) ms (member m t more) (λ ns. member_at ns n ≡ None)
    (λ _. parts.1) (λ _. cond-false (bytes_eq m n) (Some t) (member_at more n) parts.0 ∙ none_dropped n k ms parts.1)

-- Kept members stay kept after one is dropped.
kept_members_dropped : (k : List ℕ) (ms : Members) → keep_members ms ≡ ms → keep_members (drop_member ms k) ≡ drop_member ms k
kept_members_dropped k no_members kept = refl
kept_members_dropped k (member n t ms) kept =
    let parts = kept_member n t ms kept in
    let more = drop_member ms k in
    cond_both (bytes_eq n k) ms (member n t more) (λ ns. keep_members ns ≡ ns)
    (λ _. parts.2) (λ _. kept_with n t more parts.0 (none_dropped n k ms parts.1) (kept_members_dropped k ms parts.2))

-- So does an object.
pub kept_dropped : StaysWhenDropped IsKept
kept_dropped ms k kept = ap object (kept_members_dropped k ms (object_parts (keep_members ms) ms kept))

-- Kept items stay kept after the last one is popped.
kept_popped_items : (ts : Items) → keep_items ts ≡ ts → keep_items (pop_item ts) ≡ pop_item ts
kept_popped_items no_items kept = refl
kept_popped_items (item t no_items) kept = refl
kept_popped_items (item t (item u us)) kept =
    let parts = item_parts (keep t) t (keep_items (item u us)) (item u us) kept in
    ap (λ v. item v (keep_items (pop_item (item u us)))) parts.0 ∙ ap (item t) (kept_popped_items (item u us) parts.1)

-- So does a list.
pub kept_popped : StaysWhenPopped IsKept
kept_popped ts kept = ap list (kept_popped_items ts (list_parts (keep_items ts) ts kept))
