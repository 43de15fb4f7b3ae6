-- Changes that take writes back, as edits of trees.
use Rattle.std.proofs.Common.{◌≡◌, ℕ, zero, suc, Bool, true, false, List, Option, Some, None, Ok, refl, sym, ap, subst, ◌∙◌}
use Rattle.std.specs.Prelude.{bytes_eq, cond, not, ◌&&◌, nat_le, is_some, ok_or, codes, option_and_then, option_map, if◌then◌else◌}
use Rattle.std.specs.Option.{unwrap_or}
use Rattle.std.proofs.lemmas.Bool.{and_parts, cond-false}
use Rattle.std.proofs.lemmas.Option.{none-some, same_Some}
use Rattle.sj_base.specs.Tree.{Tree, list, object, Items, no_items, item, Members, no_members, member}
use Rattle.sj_base.specs.Path.{Part, member_at, at, put}
use Rattle.sj_base.specs.Containers.{members_len, items_in, members_in}
use Rattle.sj_base.specs.Edit as edits
use Rattle.sj_base.specs.Keep.{keep_members, IsKept}
use Rattle.sj_base.proofs.Keys.{key_flip, found_nowhere}
use Rattle.sj_base.proofs.Kept.{kept_member, kept_with, kept_part, kept_put, kept_with_member, kept_pushed, kept_dropped, kept_popped, object_parts}
use Rattle.sj_scripts.specs.Command.{◌>>=◌}
use Rattle.sj_documents.specs.Step.{Word, reply_of, removal, popping, write_at}
use Rattle.sj_documents.specs.Inverse.{Change, nothing, drop_member, set_member, put_member, drop_item, add_item, set_part, put_member_at, changed, back}
use Rattle.sj_documents.specs.inside.Documents.{undoing}
use Rattle.sj_documents.specs.inside.KeptChanges.{IsKeptChange}
use Rattle.sj_scripts.proofs.KeptTrees.{none_found}
use Rattle.sj_documents.proofs.Changes.{removed, popped, same_ok, an_object, a_list}

-- a reply shows what was found
abbrev shown_value : Tree → Tree → Tree
shown_value other (list (item t ts)) = t
shown_value other _ = other

pub same_found : (a b : Option Tree) → reply_of a ≡ reply_of b → a ≡ b
same_found None None e = refl
same_found (Some t) (Some u) e = ap Some (ap (shown_value t) e)
same_found None (Some u) e = absurd cc
same_found (Some t) None e = absurd cc

-- the change can be made, and u is the tree after it; or it can't be made, and u is the tree before
abbrev pub Makes : Bool → Change → Tree → Tree → Type 0
Makes is_made change t u = (is_made ≡ is_some (changed change t)) × (u ≡ unwrap_or (changed change t) t)

pub made : (change : Change) (t u : Tree) → changed change t ≡ Some u → Makes true change t u
made change t u is = (ap is_some (sym is), ap (λ o. unwrap_or o t) (sym is))

pub not_made : (change : Change) (t : Tree) → changed change t ≡ None → Makes false change t t
not_made change t is = (ap is_some (sym is), ap (λ o. unwrap_or o t) (sym is))

-- ---- what takes nothing out leaves all

stay_first : (name : List ℕ) (t : Tree) (ms : Members) (k : List ℕ) (b : Bool) → cond b (Some t) (member_at ms k) ≡ None → (member_at ms k ≡ None → edits.drop_member ms k ≡ ms)
    → cond b ms (member name t (edits.drop_member ms k)) ≡ member name t ms
stay_first name t ms k true e rest = absurd (none-some t (sym e))
stay_first name t ms k false e rest = ap (member name t) (rest e)

pub none_dropped : (ms : Members) (k : List ℕ) → member_at ms k ≡ None → edits.drop_member ms k ≡ ms
none_dropped no_members k e = refl
none_dropped (member name t ms) k e = stay_first name t ms k (bytes_eq name k) e (none_dropped ms k)

pub none_popped : (ts : Items) → edits.last_item ts ≡ None → edits.pop_item ts ≡ ts
none_popped no_items e = refl
none_popped (item t no_items) e = absurd (none-some t (sym e))
none_popped (item t (item u us)) e = ap (item t) (none_popped (item u us) e)

-- ---- each change

in_object : (f : Members → Option Tree) (t : Tree) (ms : Members) → t ≡ object ms → option_and_then f (members_in t) ≡ f ms
in_object f t ms is = ap (λ u. option_and_then f (members_in u)) is

in_list : (f : Items → Option Tree) (t : Tree) (ts : Items) → t ≡ list ts → option_and_then f (items_in t) ≡ f ts
in_list f t ts is = ap (λ u. option_and_then f (items_in u)) is

if_found : (o : Option Tree) (x y : Option Tree) (u : Tree) → o ≡ Some u → (if is_some o then x else y) ≡ x
if_found o x y u is = ap (λ (o : Option Tree). if is_some o then x else y) is

if_none : (o : Option Tree) (x y : Option Tree) → o ≡ None → (if is_some o then x else y) ≡ y
if_none o x y is = ap (λ (o : Option Tree). if is_some o then x else y) is

pub member_dropped : (k : List ℕ) (t u found : Tree) → removal k t ≡ Ok (reply_of (Some found), u) → Makes true (drop_member k) t u
member_dropped k t u found e =
    let r = removed k t (reply_of (Some found), u) e in
    let there : member_at r.0 k ≡ Some found = same_found _ _ (ap (λ (p : Tree × Tree). p.0) r.2) in
    let rest : object (edits.drop_member r.0 k) ≡ u = ap (λ (p : Tree × Tree). p.1) r.2 in
    made (drop_member k) t u (in_object _ t r.0 r.1 ∙ if_found (member_at r.0 k) _ _ found there ∙ ap Some rest)

pub member_lacking : (k : List ℕ) (t u : Tree) → removal k t ≡ Ok (reply_of None, u) → Makes false (drop_member k) t u
member_lacking k t u e =
    let r = removed k t (reply_of None, u) e in
    let none : member_at r.0 k ≡ None = same_found _ _ (ap (λ (p : Tree × Tree). p.0) r.2) in
    let rest : object (edits.drop_member r.0 k) ≡ u = ap (λ (p : Tree × Tree). p.1) r.2 in
    let same : t ≡ u = r.1 ∙ ap object (sym (none_dropped r.0 k none)) ∙ rest in
    subst (λ (x : Tree). Makes false (drop_member k) t x) same (not_made (drop_member k) t (in_object _ t r.0 r.1 ∙ if_none (member_at r.0 k) _ _ none))

pub item_dropped : (t u found : Tree) → popping t ≡ Ok (reply_of (Some found), u) → Makes true drop_item t u
item_dropped t u found e =
    let r = popped t (reply_of (Some found), u) e in
    let there : edits.last_item r.0 ≡ Some found = same_found _ _ (ap (λ (p : Tree × Tree). p.0) r.2) in
    let rest : list (edits.pop_item r.0) ≡ u = ap (λ (p : Tree × Tree). p.1) r.2 in
    made drop_item t u (in_list _ t r.0 r.1 ∙ if_found (edits.last_item r.0) _ _ found there ∙ ap Some rest)

pub item_lacking : (t u : Tree) → popping t ≡ Ok (reply_of None, u) → Makes false drop_item t u
item_lacking t u e =
    let r = popped t (reply_of None, u) e in
    let none : edits.last_item r.0 ≡ None = same_found _ _ (ap (λ (p : Tree × Tree). p.0) r.2) in
    let rest : list (edits.pop_item r.0) ≡ u = ap (λ (p : Tree × Tree). p.1) r.2 in
    let same : t ≡ u = r.1 ∙ ap list (sym (none_popped r.0 none)) ∙ rest in
    subst (λ (x : Tree). Makes false drop_item t x) same (not_made drop_item t (in_list _ t r.0 r.1 ∙ if_none (edits.last_item r.0) _ _ none))

pub no_object : (change : Members → Option Tree) (t : Tree) → members_in t ≡ None → option_and_then change (members_in t) ≡ None
no_object change t is = ap (option_and_then change) is

pub no_list : (change : Items → Option Tree) (t : Tree) → items_in t ≡ None → option_and_then change (items_in t) ≡ None
no_list change t is = ap (option_and_then change) is

-- ---- a change at a path, as an edit

abbrev paired : Tree → Tree → Tree × Tree
paired t u = (t, u)

module _ (word : Word) (reply : Tree) (p : Tree → Tree) where
  put_after : (o : Option Tree) → (ok_or (option_map (paired reply) o) word >>= λ (w : Tree × Tree). Ok (paired w.0 (p w.1))) ≡ ok_or (option_map (paired reply) (option_map p o)) word
  put_after None = refl
  put_after (Some t) = refl

  found_after : (o : Option Tree) (f : Tree → Option Tree)
      → (ok_or o word >>= λ part. ok_or (option_map (paired reply) (f part)) word >>= λ (w : Tree × Tree). Ok (paired w.0 (p w.1))) ≡ ok_or (option_map (paired reply) (option_and_then (λ part. option_map p (f part)) o)) word
  found_after None f = refl
  found_after (Some part) f = put_after (f part)

undone : (t : Tree) (path : List Part) (change : Change) → write_at t path (undoing change) ≡ ok_or (option_map (paired (reply_of None)) (back path change t)) (codes "NoSuchPath")
undone t path change = found_after (codes "NoSuchPath") (reply_of None) (put t path) (at t path) (changed change)

shown_back : (o : Option Tree) (w : Tree × Tree) (word : Word) → ok_or (option_map (paired (reply_of None)) o) word ≡ Ok w → o ≡ Some w.1
shown_back None w word e = absurd cc
shown_back (Some u) w word e = let same = same_ok _ _ _ _ refl refl e in ap (λ (p : Tree × Tree). Some p.1) same

pub taken_back : (t : Tree) (path : List Part) (change : Change) (w : Tree × Tree) → write_at t path (undoing change) ≡ Ok w → back path change t ≡ Some w.1
taken_back t path change w e = shown_back (back path change t) w (codes "NoSuchPath") (sym (undone t path change) ∙ e)

pub takes_back : (t u reply : Tree) (path : List Part) (change : Change) → write_at t path (undoing change) ≡ Ok (reply, u) → (true ≡ is_some (back path change t)) × (u ≡ unwrap_or (back path change t) t)
takes_back t u reply path change written =
    let is = taken_back t path change (reply, u) written in
    (ap is_some (sym is), ap (λ o. unwrap_or o t) (sym is))

-- ---- a change of a kept tree, whose value is kept

module _ (k : List ℕ) (v : Tree) where
  -- another key that isn't there stays away
  none_beside : (name : List ℕ) → bytes_eq k name ≡ false → (ms : Members) (i : ℕ) → member_at ms name ≡ None → member_at (put_member_at ms i k v) name ≡ None
  none_beside name other ms zero none = cond-false (bytes_eq k name) (Some v) (member_at ms name) other ∙ none
  none_beside name other no_members (suc i) none = cond-false (bytes_eq k name) (Some v) None other
  none_beside name other (member n t ms) (suc i) none =
      let parts = found_nowhere (bytes_eq n name) t (member_at ms name) none in
      cond-false (bytes_eq n name) (Some t) (member_at (put_member_at ms i k v) name) parts.0 ∙ none_beside name other ms i parts.1

  kept_put_at : IsKept v → (ms : Members) (i : ℕ) → member_at ms k ≡ None → keep_members ms ≡ ms → keep_members (put_member_at ms i k v) ≡ put_member_at ms i k v
  kept_put_at good ms zero none kept = kept_with k v ms good none kept
  kept_put_at good no_members (suc i) none kept = kept_with k v no_members good refl refl
  kept_put_at good (member n t ms) (suc i) none kept =
      let parts = kept_member n t ms kept in
      let apart = found_nowhere (bytes_eq n k) t (member_at ms k) none in
      kept_with n t (put_member_at ms i k v) parts.0 (none_beside n (key_flip n k false apart.0) ms i parts.1) (kept_put_at good ms i apart.1 parts.2)

-- the tree that an option gives under a test
if_true : (b : Bool) (x u : Tree) → (if b then Some x else None) ≡ Some u → (b ≡ true) × (x ≡ u)
if_true true x u e = (refl, same_Some x u e)
if_true false x u e = absurd (none-some u e)

opened : {A : Type 0} (o : Option A) (f : A → Option Tree) (u : Tree) → option_and_then f o ≡ Some u → (x : A) × (o ≡ Some x) × (f x ≡ Some u)
opened None f u e = absurd (none-some u e)
opened (Some x) f u e = (x, refl, e)

mapped : {A : Type 0} (o : Option A) (f : A → Tree) (u : Tree) → option_map f o ≡ Some u → (x : A) × (o ≡ Some x) × (f x ≡ u)
mapped None f u e = absurd (none-some u e)
mapped (Some x) f u e = (x, refl, same_Some (f x) u e)

pub changed_kept : (change : Change) (t u : Tree) → IsKeptChange change → IsKept t → changed change t ≡ Some u → IsKept u
changed_kept nothing t u good kept e = subst IsKept (same_Some t u e) kept
changed_kept (drop_member k) t u good kept e =
    let o = opened (members_in t) _ u e in
    let b = if_true (is_some (member_at o.0 k)) _ u o.2 in
    subst IsKept b.1 (kept_dropped o.0 k (subst IsKept (an_object t o.0 o.1) kept))
changed_kept (set_member k v) t u good kept e =
    let o = opened (members_in t) _ u e in
    let b = if_true (is_some (member_at o.0 k)) _ u o.2 in
    subst IsKept b.1 (kept_with_member o.0 k v (subst IsKept (an_object t o.0 o.1) kept) (good v refl))
changed_kept (put_member i k v) t u good kept e =
    let o = opened (members_in t) _ u e in
    let b = if_true (not (is_some (member_at o.0 k)) && nat_le i (members_len o.0)) _ u o.2 in
    let new = none_found (member_at o.0 k) (and_parts (not (is_some (member_at o.0 k))) (nat_le i (members_len o.0)) b.0).0 in
    let inside = object_parts (keep_members o.0) o.0 (subst IsKept (an_object t o.0 o.1) kept) in
    subst IsKept b.1 (ap object (kept_put_at k v (good v refl) o.0 i new inside))
changed_kept drop_item t u good kept e =
    let o = opened (items_in t) _ u e in
    let b = if_true (is_some (edits.last_item o.0)) _ u o.2 in
    subst IsKept b.1 (kept_popped o.0 (subst IsKept (a_list t o.0 o.1) kept))
changed_kept (add_item v) t u good kept e =
    let o = mapped (items_in t) _ u e in
    subst IsKept o.2 (kept_pushed o.0 v (subst IsKept (a_list t o.0 o.1) kept) (good v refl))
changed_kept (set_part v) t u good kept e = subst IsKept (same_Some v u e) (good v refl)

pub back_kept : (t : Tree) (path : List Part) (change : Change) (u : Tree) → IsKeptChange change → IsKept t → back path change t ≡ Some u → IsKept u
back_kept t path change u good kept e =
    let o = opened (at t path) _ u e in
    let m = mapped (changed change o.0) _ u o.2 in
    subst IsKept m.2 (kept_put t path m.0 kept (changed_kept change o.0 m.0 good (kept_part t path o.0 kept o.1) m.1))
