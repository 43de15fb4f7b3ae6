-- The change that takes a write back brings back its base.
use Rattle.std.proofs.Common.{◌≡◌, ℕ, zero, suc, ◌≤◌, Bool, true, false, List, [], ◌∷◌, Option, Some, None, Ok, refl, sym, ap, ap₂, subst, ◌∙◌, arith}
use Rattle.std.specs.Prelude.{bytes_eq, cond, not, ◌&&◌, is_some, option_and_then, option_map, if◌then◌else◌}
use Rattle.std.proofs.lemmas.Bool.{le-leb}
use Rattle.std.proofs.lemmas.Option.{none-some, same_Some}
use Rattle.sj_base.specs.Tree.{Tree, null, boolean, integer, decimal, string, list, object, Items, no_items, item, Members, no_members, member}
use Rattle.sj_base.specs.Path.{Part, key, place, member_at, item_at, child, at, change_member, change_item, change_child, put}
use Rattle.sj_base.specs.Containers.{members_len}
use Rattle.sj_base.specs.Edit as edits
use Rattle.sj_base.specs.Keep.{keep_members, IsKept}
use Rattle.sj_base.proofs.Keys.{same_key, own_key}
use Rattle.sj_base.proofs.Kept.{kept_member, kept_part, object_parts}
use Rattle.sj_documents.specs.Step.{Rewrite, reply_of, insertion, removal, pushing, popping, setting}
use Rattle.sj_documents.specs.Inverse.{Change, drop_item, place_of, place_in, put_member_at, changed, back, insertion_back, removal_back, popping_back}
use Rattle.sj_records.specs.Laws.{Undoes, InsertUndone, RemoveUndone, PushUndone, PopUndone, SetUndone}
use Rattle.sj_documents.proofs.MadeChanges.{none_dropped, none_popped}
use Rattle.sj_documents.proofs.Changes.{inserted, removed, pushed, popped, within, write_done}

-- ---- a child that is changed, and changed back

module _ (f : Tree → Tree) where
  first_changed : (name : List ℕ) (t : Tree) (ms : Members) (k : List ℕ) (w : Tree) (b : Bool) → bytes_eq name k ≡ b → cond b (Some t) (member_at ms k) ≡ Some w
      → (member_at ms k ≡ Some w → member_at (change_member f ms k) k ≡ Some (f w)) → member_at (cond b (member name (f t) ms) (member name t (change_member f ms k))) k ≡ Some (f w)
  first_changed name t ms k w true is e rest = ap (λ c. cond c (Some (f t)) (member_at ms k)) is ∙ ap (λ u. Some (f u)) (same_Some t w e)
  first_changed name t ms k w false is e rest = ap (λ c. cond c (Some t) (member_at (change_member f ms k) k)) is ∙ rest e

  member_changed : (ms : Members) (k : List ℕ) (w : Tree) → member_at ms k ≡ Some w → member_at (change_member f ms k) k ≡ Some (f w)
  member_changed no_members k w e = absurd (none-some w e)
  member_changed (member name t ms) k w e = first_changed name t ms k w (bytes_eq name k) refl e (member_changed ms k w)

  item_changed : (ts : Items) (n : ℕ) (w : Tree) → item_at ts n ≡ Some w → item_at (change_item f ts n) n ≡ Some (f w)
  item_changed no_items n w e = absurd (none-some w e)
  item_changed (item t ts) zero w e = ap (λ u. Some (f u)) (same_Some t w e)
  item_changed (item t ts) (suc n) w e = item_changed ts n w e

  child_changed : (t : Tree) (p : Part) (w : Tree) → child t p ≡ Some w → child (change_child f t p) p ≡ Some (f w)
  child_changed (object ms) (key k) w e = member_changed ms k w e
  child_changed (list ts) (place n) w e = item_changed ts n w e
  child_changed (object ms) (place n) w e = absurd (none-some w e)
  child_changed (list ts) (key k) w e = absurd (none-some w e)
  child_changed null p w e = absurd (none-some w e)
  child_changed (boolean b) p w e = absurd (none-some w e)
  child_changed (integer n) p w e = absurd (none-some w e)
  child_changed (decimal literal) p w e = absurd (none-some w e)
  child_changed (string s) p w e = absurd (none-some w e)

module _ (f g : Tree → Tree) where
  same_again : (t w : Tree) → Some t ≡ Some w → g (f w) ≡ w → g (f t) ≡ t
  same_again t w e h = let is = same_Some t w e in ap (λ u. g (f u)) is ∙ h ∙ sym is

  first_restored : (name : List ℕ) (t : Tree) (ms : Members) (k : List ℕ) (w : Tree) (b : Bool) → bytes_eq name k ≡ b → cond b (Some t) (member_at ms k) ≡ Some w → g (f w) ≡ w
      → (member_at ms k ≡ Some w → change_member g (change_member f ms k) k ≡ ms) → change_member g (cond b (member name (f t) ms) (member name t (change_member f ms k))) k ≡ member name t ms
  first_restored name t ms k w true is e h rest = ap (λ c. cond c (member name (g (f t)) ms) (member name (f t) (change_member g ms k))) is ∙ ap (λ u. member name u ms) (same_again t w e h)
  first_restored name t ms k w false is e h rest =
      ap (λ c. cond c (member name (g t) (change_member f ms k)) (member name t (change_member g (change_member f ms k) k))) is ∙ ap (member name t) (rest e)

  member_restored : (ms : Members) (k : List ℕ) (w : Tree) → member_at ms k ≡ Some w → g (f w) ≡ w → change_member g (change_member f ms k) k ≡ ms
  member_restored no_members k w e h = refl
  member_restored (member name t ms) k w e h = first_restored name t ms k w (bytes_eq name k) refl e h (λ found. member_restored ms k w found h)

  item_restored : (ts : Items) (n : ℕ) (w : Tree) → item_at ts n ≡ Some w → g (f w) ≡ w → change_item g (change_item f ts n) n ≡ ts
  item_restored no_items n w e h = refl
  item_restored (item t ts) zero w e h = ap (λ u. item u ts) (same_again t w e h)
  item_restored (item t ts) (suc n) w e h = ap (item t) (item_restored ts n w e h)

  child_restored : (t : Tree) (p : Part) (w : Tree) → child t p ≡ Some w → g (f w) ≡ w → change_child g (change_child f t p) p ≡ t
  child_restored (object ms) (key k) w e h = ap object (member_restored ms k w e h)
  child_restored (list ts) (place n) w e h = ap list (item_restored ts n w e h)
  child_restored (object ms) (place n) w e h = refl
  child_restored (list ts) (key k) w e h = refl
  child_restored null p w e h = refl
  child_restored (boolean b) p w e h = refl
  child_restored (integer n) p w e h = refl
  child_restored (decimal literal) p w e h = refl
  child_restored (string s) p w e h = refl

-- ---- a part that is replaced, and put back

bind_some : (o : Option Tree) (f : Tree → Option Tree) (x : Tree) → option_and_then f o ≡ Some x → (w : Tree) × (o ≡ Some w) × (f w ≡ Some x)
bind_some None f x e = absurd (none-some x e)
bind_some (Some w) f x e = (w, refl, e)

at_put : (t : Tree) (path : List Part) (n part : Tree) → at t path ≡ Some part → at (put t path n) path ≡ Some n
at_put t [] n part e = refl
at_put t (p ∷ path) n part e =
    let b = bind_some (child t p) (λ u. at u path) part e in
    ap (option_and_then (λ u. at u path)) (child_changed (λ u. put u path n) t p b.0 b.1) ∙ at_put b.0 path n part b.2

put_back : (t : Tree) (path : List Part) (n part : Tree) → at t path ≡ Some part → put (put t path n) path part ≡ t
put_back t [] n part e = sym (same_Some t part e)
put_back t (p ∷ path) n part e =
    let b = bind_some (child t p) (λ u. at u path) part e in
    child_restored (λ u. put u path n) (λ u. put u path part) t p b.0 b.1 (put_back b.0 path n part b.2)

back_found : (t : Tree) (path : List Part) (n part : Tree) (change : Change) → at t path ≡ Some part → changed change n ≡ Some part → back path change (put t path n) ≡ Some t
back_found t path n part change found is =
    ap (option_and_then (λ q. option_map (put (put t path n) path) (changed change q))) (at_put t path n part found)
    ∙ ap (option_map (put (put t path n) path)) is
    ∙ ap (λ u. Some u) (put_back t path n part found)

-- ---- members

put_first : (name : List ℕ) (t : Tree) (ms : Members) (k : List ℕ) (v : Tree) (b : Bool) → bytes_eq name k ≡ b → member_at (edits.put_member ms k v) k ≡ Some v
    → member_at (cond b (member name v ms) (member name t (edits.put_member ms k v))) k ≡ Some v
put_first name t ms k v true is rest = ap (λ c. cond c (Some v) (member_at ms k)) is
put_first name t ms k v false is rest = ap (λ c. cond c (Some t) (member_at (edits.put_member ms k v) k)) is ∙ rest

member_put : (ms : Members) (k : List ℕ) (v : Tree) → member_at (edits.put_member ms k v) k ≡ Some v
member_put no_members k v = ap (λ c. cond c (Some v) None) (own_key k)
member_put (member name t ms) k v = put_first name t ms k v (bytes_eq name k) refl (member_put ms k v)

drop_first : (name : List ℕ) (t : Tree) (ms : Members) (k : List ℕ) (v : Tree) (b : Bool) → bytes_eq name k ≡ b → cond b (Some t) (member_at ms k) ≡ None
    → (member_at ms k ≡ None → edits.drop_member (edits.put_member ms k v) k ≡ ms) → edits.drop_member (cond b (member name v ms) (member name t (edits.put_member ms k v))) k ≡ member name t ms
drop_first name t ms k v true is e rest = absurd (none-some t (sym e))
drop_first name t ms k v false is e rest = ap (λ c. cond c (edits.put_member ms k v) (member name t (edits.drop_member (edits.put_member ms k v) k))) is ∙ ap (member name t) (rest e)

new_dropped : (ms : Members) (k : List ℕ) (v : Tree) → member_at ms k ≡ None → edits.drop_member (edits.put_member ms k v) k ≡ ms
new_dropped no_members k v e = ap (λ c. cond c no_members (member k v no_members)) (own_key k)
new_dropped (member name t ms) k v e = drop_first name t ms k v (bytes_eq name k) refl e (new_dropped ms k v)

replace_first : (name : List ℕ) (t : Tree) (ms : Members) (k : List ℕ) (v old : Tree) (b : Bool) → bytes_eq name k ≡ b → cond b (Some t) (member_at ms k) ≡ Some old
    → (member_at ms k ≡ Some old → edits.put_member (edits.put_member ms k v) k old ≡ ms) → edits.put_member (cond b (member name v ms) (member name t (edits.put_member ms k v))) k old ≡ member name t ms
replace_first name t ms k v old true is e rest = ap (λ c. cond c (member name old ms) (member name v (edits.put_member ms k old))) is ∙ ap (λ u. member name u ms) (sym (same_Some t old e))
replace_first name t ms k v old false is e rest =
    ap (λ c. cond c (member name old (edits.put_member ms k v)) (member name t (edits.put_member (edits.put_member ms k v) k old))) is ∙ ap (member name t) (rest e)

old_replaced : (ms : Members) (k : List ℕ) (v old : Tree) → member_at ms k ≡ Some old → edits.put_member (edits.put_member ms k v) k old ≡ ms
old_replaced no_members k v old e = absurd (none-some old e)
old_replaced (member name t ms) k v old e = replace_first name t ms k v old (bytes_eq name k) refl e (old_replaced ms k v old)

-- a removed member, put at its place again
again_first : (name : List ℕ) (t : Tree) (ms : Members) (k : List ℕ) (old : Tree) (b : Bool) → bytes_eq name k ≡ b → cond b (Some t) (member_at ms k) ≡ Some old
    → (member_at ms k ≡ Some old → put_member_at (edits.drop_member ms k) (place_of ms k) k old ≡ ms)
    → put_member_at (cond b ms (member name t (edits.drop_member ms k))) (cond b 0 (suc (place_of ms k))) k old ≡ member name t ms
again_first name t ms k old true is e rest = ap₂ (λ n u. member n u ms) (sym (same_key name k is)) (sym (same_Some t old e))
again_first name t ms k old false is e rest = ap (member name t) (rest e)

put_again : (ms : Members) (k : List ℕ) (old : Tree) → member_at ms k ≡ Some old → put_member_at (edits.drop_member ms k) (place_of ms k) k old ≡ ms
put_again no_members k old e = absurd (none-some old e)
put_again (member name t ms) k old e = again_first name t ms k old (bytes_eq name k) refl e (put_again ms k old)

-- that place is one of the object without it
within_first : (name : List ℕ) (t : Tree) (ms : Members) (k : List ℕ) (old : Tree) (b : Bool) → cond b (Some t) (member_at ms k) ≡ Some old
    → (member_at ms k ≡ Some old → place_of ms k ≤ members_len (edits.drop_member ms k))
    → cond b 0 (suc (place_of ms k)) ≤ members_len (cond b ms (member name t (edits.drop_member ms k)))
within_first name t ms k old true e rest = omega arith
within_first name t ms k old false e rest = let low = rest e in omega arith

place_within : (ms : Members) (k : List ℕ) (old : Tree) → member_at ms k ≡ Some old → place_of ms k ≤ members_len (edits.drop_member ms k)
place_within no_members k old e = absurd (none-some old e)
place_within (member name t ms) k old e = within_first name t ms k old (bytes_eq name k) e (place_within ms k old)

-- and the key is gone
gone_first : (name : List ℕ) (t : Tree) (ms : Members) (k : List ℕ) (old : Tree) (b : Bool) → bytes_eq name k ≡ b → member_at ms name ≡ None → cond b (Some t) (member_at ms k) ≡ Some old
    → (member_at ms k ≡ Some old → member_at (edits.drop_member ms k) k ≡ None) → member_at (cond b ms (member name t (edits.drop_member ms k))) k ≡ None
gone_first name t ms k old true is none e rest = ap (member_at ms) (sym (same_key name k is)) ∙ none
gone_first name t ms k old false is none e rest = ap (λ c. cond c (Some t) (member_at (edits.drop_member ms k) k)) is ∙ rest e

dropped_gone : (ms : Members) (k : List ℕ) (old : Tree) → keep_members ms ≡ ms → member_at ms k ≡ Some old → member_at (edits.drop_member ms k) k ≡ None
dropped_gone no_members k old kept e = refl
dropped_gone (member name t ms) k old kept e =
    let parts = kept_member name t ms kept in
    gone_first name t ms k old (bytes_eq name k) refl parts.1 e (dropped_gone ms k old parts.2)

-- ---- items

last_pushed : (ts : Items) (v : Tree) → edits.last_item (edits.push_item ts v) ≡ Some v
last_pushed no_items v = refl
last_pushed (item t no_items) v = refl
last_pushed (item t (item u us)) v = last_pushed (item u us) v

pushed_popped : (ts : Items) (v : Tree) → edits.pop_item (edits.push_item ts v) ≡ ts
pushed_popped no_items v = refl
pushed_popped (item t no_items) v = refl
pushed_popped (item t (item u us)) v = ap (item t) (pushed_popped (item u us) v)

popped_pushed : (ts : Items) (v : Tree) → edits.last_item ts ≡ Some v → edits.push_item (edits.pop_item ts) v ≡ ts
popped_pushed no_items v e = absurd (none-some v e)
popped_pushed (item t no_items) v e = ap (λ u. item u no_items) (sym (same_Some t v e))
popped_pushed (item t (item u us)) v e = ap (item t) (popped_pushed (item u us) v e)

-- ---- the part of a write, taken back

insert_back : (ms : Members) (k : List ℕ) (v : Tree) (o : Option Tree) → member_at ms k ≡ o → changed (insertion_back k o) (object (edits.put_member ms k v)) ≡ Some (object ms)
insert_back ms k v None e =
    ap (λ (o : Option Tree). if is_some o then Some (object (edits.drop_member (edits.put_member ms k v) k)) else None) (member_put ms k v) ∙ ap (λ ns. Some (object ns)) (new_dropped ms k v e)
insert_back ms k v (Some old) e =
    ap (λ (o : Option Tree). if is_some o then Some (object (edits.put_member (edits.put_member ms k v) k old)) else None) (member_put ms k v) ∙ ap (λ ns. Some (object ns)) (old_replaced ms k v old e)

remove_back : (ms : Members) (k : List ℕ) (o : Option Tree) → keep_members ms ≡ ms → member_at ms k ≡ o → changed (removal_back (place_of ms k) k o) (object (edits.drop_member ms k)) ≡ Some (object ms)
remove_back ms k None kept e = ap (λ ns. Some (object ns)) (none_dropped ms k e)
remove_back ms k (Some old) kept e =
    let ns = edits.drop_member ms k in
    ap₂ (λ (o : Option Tree) (b : Bool). if not (is_some o) && b then Some (object (put_member_at ns (place_of ms k) k old)) else None) (dropped_gone ms k old kept e) (le-leb (place_of ms k) (members_len ns) (place_within ms k old e))
    ∙ ap (λ ns. Some (object ns)) (put_again ms k old e)

push_back : (ts : Items) (v : Tree) → changed drop_item (list (edits.push_item ts v)) ≡ Some (list ts)
push_back ts v =
    ap (λ (o : Option Tree). if is_some o then Some (list (edits.pop_item (edits.push_item ts v))) else None) (last_pushed ts v) ∙ ap (λ us. Some (list us)) (pushed_popped ts v)

pop_back : (ts : Items) (o : Option Tree) → edits.last_item ts ≡ o → changed (popping_back o) (list (edits.pop_item ts)) ≡ Some (list ts)
pop_back ts None e = ap (λ us. Some (list us)) (none_popped ts e)
pop_back ts (Some t) e = ap (λ us. Some (list us)) (popped_pushed ts t e)

-- ---- the whole write

abbrev Restores : Rewrite → (Tree → Option Tree → Change) → Type 0
Restores write inverse = (part : Tree) (n : Tree × Tree) → IsKept part → write part ≡ Ok n → (found : Option Tree) × (n.0 ≡ reply_of found) × (changed (inverse part found) n.1 ≡ Some part)

undone : (path : List Part) (write : Rewrite) (inverse : Tree → Option Tree → Change) → Restores write inverse → Undoes path write inverse
undone path write inverse local t reply u kept e =
    let d = write_done t path write (reply, u) e in
    let l = local d.0 d.2 (kept_part t path d.0 kept d.1) d.3 in
    let is = ap (λ (p : Tree × Tree). p.1) d.4 in (
      d.0,
      l.0,
      d.1,
      sym (ap (λ (p : Tree × Tree). p.0) d.4) ∙ l.1,
      subst (λ (w : Tree). back path (inverse d.0 l.0) w ≡ Some t) is (back_found t path d.2.1 d.0 (inverse d.0 l.0) d.1 l.2),
    )

-- the part and what a write made of it, by name
renamed : (change : Change) (part whole old new : Tree) → whole ≡ part → old ≡ new → changed change old ≡ Some whole → changed change new ≡ Some part
renamed change part whole old new is was h = ap (changed change) (sym was) ∙ h ∙ ap (λ u. Some u) is

pub insert_undone : InsertUndone
insert_undone path k v test = undone path (insertion test k v) _ (λ part n kept e.
    let i = inserted test k v part n e in
    let is = ap (λ (p : Tree × Tree). p.1) i.3 in
    (member_at i.0 k, sym (ap (λ (p : Tree × Tree). p.0) i.3), renamed _ part (object i.0) _ n.1 (sym i.1) is (insert_back i.0 k v (member_at i.0 k) refl)))

pub remove_undone : RemoveUndone
remove_undone path k = undone path (removal k) _ (λ part n kept e.
    let i = removed k part n e in
    let is = ap (λ (p : Tree × Tree). p.1) i.2 in
    let ms_kept = object_parts (keep_members i.0) i.0 (subst IsKept i.1 kept) in
    let found = member_at i.0 k in (
      found,
      sym (ap (λ (p : Tree × Tree). p.0) i.2),
      ap (λ (whole : Tree). changed (removal_back (place_in whole k) k found) n.1) i.1 ∙ renamed (removal_back (place_of i.0 k) k found) part (object i.0) _ n.1 (sym i.1) is (remove_back i.0 k found ms_kept refl),
    ))

pub push_undone : PushUndone
push_undone path v test = undone path (pushing test v) (λ part found. drop_item) (λ part n kept e.
    let i = pushed test v part n e in
    let is = ap (λ (p : Tree × Tree). p.1) i.3 in
    (None, sym (ap (λ (p : Tree × Tree). p.0) i.3), renamed drop_item part (list i.0) _ n.1 (sym i.1) is (push_back i.0 v)))

pub pop_undone : PopUndone
pop_undone path = undone path popping _ (λ part n kept e.
    let i = popped part n e in
    let is = ap (λ (p : Tree × Tree). p.1) i.2 in
    (edits.last_item i.0, sym (ap (λ (p : Tree × Tree). p.0) i.2), renamed _ part (list i.0) _ n.1 (sym i.1) is (pop_back i.0 (edits.last_item i.0) refl)))

pub set_undone : SetUndone
set_undone path v test = undone path (setting test v) _ (λ part n kept e.
    let i = within test _ n e in
    (Some part, sym (ap (λ (p : Tree × Tree). p.0) i.1), refl))
