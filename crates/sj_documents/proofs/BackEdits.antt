-- Changes of documents that take writes back.
use Rattle.std.proofs.Common.{◌≡◌, ℕ, zero, suc, ◌≤◌, length, Bool, true, false, List, [], ◌∷◌, Option, Some, None, Result, Ok, Err, refl, sym, ap, ap₂, subst, ◌∙◌, arith, option_map}
use Rattle.std.specs.Prelude.{bytes_eq, cond, not, ◌&&◌, nat_le, is_some, is_err, ok_or, option_and_then, OnOk, OnErr, if◌then◌else◌}
use Rattle.std.specs.Option.{unwrap_or}
use Rattle.std.proofs.lemmas.Bool.{and_from, and_parts, le-leb, leb-true}
use Rattle.std.proofs.lemmas.Option.{none-some, same_Some}
use Rattle.sj_base.specs.Tree.{Tree, object, Members, member}
use Rattle.sj_base.specs.Path.{Part, member_at, at}
use Rattle.sj_base.specs.Containers.{members_len, items_in, members_in}
use Rattle.sj_base.specs.Edit as edits
use Rattle.sj_base.specs.declared.fault.AccessError.{AccessError}
use Rattle.sj_base.specs.declared.fault.AccessError.TheVariants.{NotAnObject, NotAnArray}
use Rattle.sj_object.specs.declared.entry.Entry.{Entry}
use Rattle.sj_object.specs.Pairs as pairs
use Rattle.sj_owned.specs.Edits.{without_member, without_last, last_of}
use Rattle.sj_owned.specs.Views.{value_tree, items_view, members_view, items_inside, members_inside}
use Rattle.sj_owned.specs.declared.value.Value.{Value, Object}
use Rattle.sj_owned.proofs.Layers.{tree-Object}
use Rattle.sj_build.proofs.Members.{value_member}
use Rattle.sj_documents.specs.Inverse.{drop_member, set_member, put_member, drop_item, put_member_at, place_of, place_in, place_at, changed}
use Rattle.sj_documents.specs.inside.Documents.{is_taken}
use Rattle.sj_documents.proofs.Edits.{members-inside, items-inside, count_members, removed, popped}
use Rattle.sj_documents.proofs.MadeChanges.{Makes, made, not_made, member_dropped, member_lacking, item_dropped, item_lacking, no_object, no_list}

module _ {K D : Type 0} (text : K → List ℕ) (literal : D → List ℕ) where
  abbrev tree : Value K D → Tree
  tree = value_tree text literal

  abbrev members : List (Entry K (Value K D)) → Members
  members = members_view text literal

  -- ---- the place of a key

  or_behind : (b : Bool) (o : Option ℕ) (n m : ℕ) → unwrap_or o n ≡ m → unwrap_or (if b then Some 0 else option_map (λ i. suc i) o) (suc n) ≡ (if b then 0 else suc m)
  or_behind true o n m e = refl
  or_behind false None n m e = ap suc e
  or_behind false (Some i) n m e = ap suc e

  pub key_place : (es : List (Entry K (Value K D))) (k : List ℕ) → unwrap_or (pairs.place_of text es k) (length es) ≡ place_of (members es) k
  key_place [] k = refl
  key_place (e ∷ es) k = or_behind (bytes_eq (text e.key) k) (pairs.place_of text es k) (length es) (place_of (members es) k) (key_place es k)

  pub placed_at : (v : Value K D) (es : List (Entry K (Value K D))) (t : Tree) (path : List Part) (k : List ℕ) → at t path ≡ Some (tree v) → members_inside v ≡ Some es → unwrap_or (pairs.place_of text es k) (length es) ≡ place_at t path k
  placed_at v es t path k found is =
      let inside : members_in (tree v) ≡ Some (members es) = members-inside text literal v ∙ ap (option_map members) is in
      key_place es k
      ∙ sym (ap (λ o. unwrap_or (option_map (λ part. place_in part k) o) 0) found ∙ ap (λ o. unwrap_or (option_map (λ ms. place_of ms k) o) 0) inside)

  -- ---- a member at a place

  members_put : (es : List (Entry K (Value K D))) (i : ℕ) (k : K) (v : Value K D) → i ≤ length es → members (pairs.put_at es i k v) ≡ put_member_at (members es) i (text k) (tree v)
  members_put [] zero k v within = refl
  members_put [] (suc i) k v within = absurd (omega arith)
  members_put (e ∷ es) zero k v within = refl
  members_put (e ∷ es) (suc i) k v within = ap (member (text e.key) (tree e.value)) (members_put es i k v (omega arith))

  still_there : (o : Option (Value K D)) → is_some (option_map tree o) ≡ is_some o
  still_there None = refl
  still_there (Some v) = refl

  -- a member that is put at a place, where it can be put
  module _ (v : Value K D) (es : List (Entry K (Value K D))) (is : members_inside v ≡ Some es) (i : ℕ) (k : List ℕ) (t : Tree) where
    in_members : members_in (tree v) ≡ Some (members es)
    in_members = members-inside text literal v ∙ ap (option_map members) is

    key_found : member_at (members es) k ≡ option_map tree (pairs.value_at text es k)
    key_found = sym (value_member text tree es k)

    abbrev put_or_not : Option Tree
    put_or_not = if not (is_some (member_at (members es) k)) && nat_le i (members_len (members es)) then Some (object (put_member_at (members es) i k t)) else None

    opened : changed (put_member i k t) (tree v) ≡ put_or_not
    opened = ap (option_and_then (λ ms. if not (is_some (member_at ms k)) && nat_le i (members_len ms) then Some (object (put_member_at ms i k t)) else None)) in_members

    there_not : pairs.value_at text es k ≡ None → member_at (members es) k ≡ None
    there_not none = key_found ∙ ap (option_map tree) none

    pub member_put_at : (key : K) (w : Value K D) → text key ≡ k → tree w ≡ t → pairs.value_at text es k ≡ None → i ≤ length es
        → Makes true (put_member i k t) (tree v) (tree (Object (pairs.put_at es i key w)))
    member_put_at key w named valued none within =
        let new : not (is_some (member_at (members es) k)) ≡ true = ap (λ (o : Option Tree). not (is_some o)) (there_not none) in
        let low : nat_le i (members_len (members es)) ≡ true = ap (nat_le i) (count_members text literal es) ∙ le-leb i (length es) within in
        let puts : tree (Object (pairs.put_at es i key w)) ≡ object (put_member_at (members es) i k t) =
        tree-Object text literal (pairs.put_at es i key w) ∙ ap object (members_put es i key w within ∙ ap₂ (put_member_at (members es) i) named valued) in
        made (put_member i k t) (tree v) _ (
        opened ∙ ap (λ (b : Bool). if b then Some (object (put_member_at (members es) i k t)) else None) (and_from (not (is_some (member_at (members es) k))) (nat_le i (members_len (members es))) new low)
        ∙ ap Some (sym puts)
        )

    pub member_not_put : (not (is_some (pairs.value_at text es k)) && nat_le i (length es)) ≡ false → Makes false (put_member i k t) (tree v) (tree v)
    member_not_put not_taken =
        let same : (not (is_some (member_at (members es) k)) && nat_le i (members_len (members es))) ≡ false =
        ap₂ (λ (b : Bool) (n : ℕ). not b && nat_le i n) (ap is_some key_found ∙ still_there (pairs.value_at text es k)) (count_members text literal es) ∙ not_taken in
        not_made (put_member i k t) (tree v) (opened ∙ ap (λ (b : Bool). if b then Some (object (put_member_at (members es) i k t)) else None) same)

  -- a value that is put under a key that is there
  set_first : (b : Bool) (e : Entry K (Value K D)) (es : List (Entry K (Value K D))) (k : List ℕ) (w : Value K D) → members (pairs.set_value text es k w) ≡ edits.put_member (members es) k (tree w)
      → members (if b then record e { value = w } ∷ es else e ∷ pairs.set_value text es k w) ≡ cond b (member (text e.key) (tree w) (members es)) (member (text e.key) (tree e.value) (edits.put_member (members es) k (tree w)))
  set_first true e es k w rest = refl
  set_first false e es k w rest = ap (member (text e.key) (tree e.value)) rest

  found_behind : (b : Bool) (v old : Value K D) (o : Option (Value K D)) → b ≡ false → (if b then Some v else o) ≡ Some old → o ≡ Some old
  found_behind true v old o other e = absurd cc
  found_behind false v old o other e = e

  set_or_on : (b : Bool) (e : Entry K (Value K D)) (es : List (Entry K (Value K D))) (k : List ℕ) (w : Value K D) → bytes_eq (text e.key) k ≡ b
      → (b ≡ false → members (pairs.set_value text es k w) ≡ edits.put_member (members es) k (tree w)) → members (pairs.set_value text (e ∷ es) k w) ≡ edits.put_member (members (e ∷ es)) k (tree w)
  set_or_on true e es k w is rest =
      ap (λ c. members (if c then record e { value = w } ∷ es else e ∷ pairs.set_value text es k w)) is
      ∙ sym (ap (λ c. cond c (member (text e.key) (tree w) (members es)) (member (text e.key) (tree e.value) (edits.put_member (members es) k (tree w)))) is)
  set_or_on false e es k w is rest = set_first (bytes_eq (text e.key) k) e es k w (rest refl)

  pub members_set : (es : List (Entry K (Value K D))) (k : List ℕ) (w old : Value K D) → pairs.value_at text es k ≡ Some old → members (pairs.set_value text es k w) ≡ edits.put_member (members es) k (tree w)
  members_set [] k w old found = absurd (none-some old found)
  members_set (e ∷ es) k w old found =
      set_or_on (bytes_eq (text e.key) k) e es k w refl (λ other. members_set es k w old (found_behind (bytes_eq (text e.key) k) e.value old (pairs.value_at text es k) other found))

  -- a value that is put where it is
  same_first : (b : Bool) (e : Entry K (Value K D)) (w : Value K D) (es more : List (Entry K (Value K D))) (o : Option (Value K D)) → (if b then Some e.value else o) ≡ Some w → (o ≡ Some w → more ≡ es)
      → (if b then record e { value = w } ∷ es else e ∷ more) ≡ e ∷ es
  same_first true e w es more o found rest = ap (λ v. record e { value = v } ∷ es) (sym (same_Some e.value w found))
  same_first false e w es more o found rest = ap (λ l. e ∷ l) (rest found)

  pub same_set : (es : List (Entry K (Value K D))) (k : List ℕ) (w : Value K D) → pairs.value_at text es k ≡ Some w → pairs.set_value text es k w ≡ es
  same_set [] k w found = refl
  same_set (e ∷ es) k w found = same_first (bytes_eq (text e.key) k) e w es (pairs.set_value text es k w) (pairs.value_at text es k) found (same_set es k w)

  module _ (v : Value K D) (es : List (Entry K (Value K D))) (is : members_inside v ≡ Some es) (k : List ℕ) (t : Tree) where
    set_or_not : changed (set_member k t) (tree v) ≡ (if is_some (member_at (members es) k) then Some (object (edits.put_member (members es) k t)) else None)
    set_or_not = ap (option_and_then (λ ms. if is_some (member_at ms k) then Some (object (edits.put_member ms k t)) else None)) (members-inside text literal v ∙ ap (option_map members) is)

    pub member_set : (w old : Value K D) → tree w ≡ t → pairs.value_at text es k ≡ Some old → Makes true (set_member k t) (tree v) (tree (Object (pairs.set_value text es k w)))
    member_set w old valued found =
        let there : member_at (members es) k ≡ Some (tree old) = sym (value_member text tree es k) ∙ ap (option_map tree) found in
        let puts : tree (Object (pairs.set_value text es k w)) ≡ object (edits.put_member (members es) k t) =
        tree-Object text literal (pairs.set_value text es k w) ∙ ap object (members_set es k w old found ∙ ap (edits.put_member (members es) k) valued) in
        made (set_member k t) (tree v) _ (set_or_not ∙ ap (λ (o : Option Tree). if is_some o then Some (object (edits.put_member (members es) k t)) else None) there ∙ ap Some (sym puts))

    pub member_not_set : pairs.value_at text es k ≡ None → Makes false (set_member k t) (tree v) (tree v)
    member_not_set none =
        let gone : member_at (members es) k ≡ None = sym (value_member text tree es k) ∙ ap (option_map tree) none in
        not_made (set_member k t) (tree v) (set_or_not ∙ ap (λ (o : Option Tree). if is_some o then Some (object (edits.put_member (members es) k t)) else None) gone)

  lacks : {A B : Type 0} (o : Option A) (f : A → B) (why e : AccessError) → Err e ≡ ok_or (option_map f o) why → o ≡ None
  lacks None f why e is = refl
  lacks (Some x) f why e is = absurd cc

  no_members_in : (v : Value K D) (k : List ℕ) (e : AccessError) → Err e ≡ ok_or (option_map (λ es. pairs.value_at text es k) (members_inside v)) NotAnObject → members_in (tree v) ≡ None
  no_members_in v k e is = members-inside text literal v ∙ ap (option_map members) (lacks (members_inside v) _ NotAnObject e is)

  no_items_in : (v : Value K D) (e : AccessError) → Err e ≡ ok_or (option_map last_of (items_inside v)) NotAnArray → items_in (tree v) ≡ None
  no_items_in v e is = items-inside text literal v ∙ ap (option_map (items_view text literal)) (lacks (items_inside v) last_of NotAnArray e is)

  -- ---- what is taken out

  module _ (v w : Value K D) (k : List ℕ) where
    pub member_taken : (r : Result (Option (Value K D)) AccessError) → r ≡ ok_or (option_map (λ es. pairs.value_at text es k) (members_inside v)) NotAnObject
        → OnOk r (Some (tree w) ≡ without_member (tree v) k) → OnErr r (w ≡ v) → Makes (is_taken r) (drop_member k) (tree v) (tree w)
    member_taken (Ok (Some x)) value now same = member_dropped k (tree v) (tree w) (tree x) (removed text literal v w (Some x) k now value)
    member_taken (Ok None) value now same = member_lacking k (tree v) (tree w) (removed text literal v w None k now value)
    member_taken (Err e) value now same = subst (λ (u : Tree). Makes false (drop_member k) (tree v) u) (ap tree (sym same)) (not_made (drop_member k) (tree v) (no_object _ (tree v) (no_members_in v k e value)))

  module _ (v w : Value K D) where
    pub item_taken : (r : Result (Option (Value K D)) AccessError) → r ≡ ok_or (option_map last_of (items_inside v)) NotAnArray
        → OnOk r (Some (tree w) ≡ without_last (tree v)) → OnErr r (w ≡ v) → Makes (is_taken r) drop_item (tree v) (tree w)
    item_taken (Ok (Some x)) value now same = item_dropped (tree v) (tree w) (tree x) (popped text literal v w (Some x) now value)
    item_taken (Ok None) value now same = item_lacking (tree v) (tree w) (popped text literal v w None now value)
    item_taken (Err e) value now same = subst (λ (u : Tree). Makes false drop_item (tree v) u) (ap tree (sym same)) (not_made drop_item (tree v) (no_list _ (tree v) (no_items_in v e value)))

  -- what the test of a place tells
  nothing_found : (o : Option (Value K D)) → not (is_some o) ≡ true → o ≡ None
  nothing_found None e = refl
  nothing_found (Some v) e = absurd cc

  pub put_allowed : (es : List (Entry K (Value K D))) (i : ℕ) (k : List ℕ) → (not (is_some (pairs.value_at text es k)) && nat_le i (length es)) ≡ true → (pairs.value_at text es k ≡ None) × (i ≤ length es)
  put_allowed es i k h =
      let parts = and_parts (not (is_some (pairs.value_at text es k))) (nat_le i (length es)) h in
      (nothing_found (pairs.value_at text es k) parts.0, leb-true i (length es) parts.1)

-- what a result tells of a call, by whether it is an error
pub kept_on_error : {A E : Type 0} (r : Result A E) (Q : Type 0) → is_err r ≡ true → OnErr r Q → Q
kept_on_error (Ok x) Q e h = absurd cc
kept_on_error (Err f) Q e h = h

pub done_without : {A E : Type 0} (r : Result A E) (Q : Type 0) → is_err r ≡ false → OnOk r Q → Q
done_without (Ok x) Q e h = h
done_without (Err f) Q e h = absurd cc
