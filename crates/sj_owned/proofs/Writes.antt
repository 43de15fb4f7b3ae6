-- A document in which a part was replaced, as a caller of `as_object_mut`, `as_array_mut`, `get_mut` or `get_idx_mut` leaves it.
use Rattle.std.proofs.Common.{◌≡◌, Option, Some, None, IsSome, rules, ℕ, zero, suc, true, false, List, [], ◌∷◌, slice_set, refl, ap, subst, sym, ◌∙◌, Vec, if◌then◌else◌, Bool, bytes_eq}
use Rattle.std.specs.Option.{option_and_then}
use Rattle.std.specs.declared.alloc.Global.{Global}
use Rattle.std.specs.Prelude.{slice_get}
use Rattle.std.specs.Vec.{with_item}
use Rattle.sj_base.specs.Path.{key, place, change_member, change_item, put}
use Rattle.sj_base.specs.Tree.{list, object, item, Members, member}
use Rattle.sj_object.specs.Pairs.{set_value, value_at}
use Rattle.sj_object.specs.declared.entry.Entry.{Entry}
use Rattle.sj_owned.specs.Lends.{item_set, member_set}
use Rattle.sj_owned.specs.Parts.{member_of, item_of}
use Rattle.sj_owned.specs.Views.{value_tree, items_view, members_view, array_inside, members_inside}
use Rattle.sj_owned.specs.inside.Lending.{made_of_items, made_of_members, item_of_vector}
use Rattle.sj_owned.specs.declared.value.Value.{Value, Array, Object}
use Rattle.sj_owned.proofs.Layers.{tree-Array, tree-Object}

module _ {K D : Type 0} (text : K → List ℕ) (literal : D → List ℕ) where
  set_first : (b : Bool) (e : Entry K (Value K D)) (w : Value K D) (es more : List (Entry K (Value K D))) (ms : Members) → members_view text literal more ≡ ms
      → members_view text literal (if b then record e { value = w } ∷ es else e ∷ more) ≡ (if b then member (text e.key) (value_tree text literal w) (members_view text literal es) else member (text e.key) (value_tree text literal e.value) ms)
  set_first true e w es more ms same = refl
  set_first false e w es more ms same = ap (member (text e.key) (value_tree text literal e.value)) same

  members_set : (es : List (Entry K (Value K D))) (k : List ℕ) (w : Value K D) → members_view text literal (set_value text es k w) ≡ change_member (λ t. value_tree text literal w) (members_view text literal es) k
  members_set [] k w = refl
  members_set (e ∷ es) k w = set_first (bytes_eq (text e.key) k) e w es (set_value text es k w) _ (members_set es k w)

  items_set : (vs : List (Value K D)) (i : ℕ) (w : Value K D) → items_view text literal (slice_set vs i w) ≡ change_item (λ t. value_tree text literal w) (items_view text literal vs) i
  items_set [] i w = refl
  items_set (v ∷ vs) zero w = refl
  items_set (v ∷ vs) (suc i) w = ap (item (value_tree text literal v)) (items_set vs i w)

  -- the tree of an object by its members
  pub tree_of_members : (v : Value K D) (es : List (Entry K (Value K D))) → members_inside v ≡ Some es → value_tree text literal v ≡ object (members_view text literal es)
  tree_of_members v es is = sym (ap (value_tree text literal) (made_of_members v es is)) ∙ tree-Object text literal es

  -- an object with another value under a key
  pub object_set : (v : Value K D) (es : List (Entry K (Value K D))) (k : List ℕ) (w : Value K D) → members_inside v ≡ Some es
      → value_tree text literal (Object (set_value text es k w)) ≡ put (value_tree text literal v) (key k ∷ []) (value_tree text literal w)
  object_set v es k w is =
      tree-Object text literal (set_value text es k w)
      ∙ ap object (members_set es k w)
      ∙ sym (ap (λ t. put t (key k ∷ []) (value_tree text literal w)) (tree_of_members v es is))

  -- an array with another item at a place
  pub array_set : (v : Vec (Value K D) Global) (i : ℕ) (w : Value K D) → value_tree text literal (Array (with_item v i w)) ≡ put (value_tree text literal (Array v)) (place i ∷ []) (value_tree text literal w)
  array_set v i w =
      tree-Array text literal (with_item v i w)
      ∙ ap list (items_set v.items i w)
      ∙ sym (ap (λ t. put t (place i ∷ []) (value_tree text literal w)) (tree-Array text literal v))

  set_in_members : (v : Value K D) (k : List ℕ) (w : Value K D) (p : Option (List (Entry K (Value K D)))) → members_inside v ≡ p → IsSome (option_and_then (λ es. value_at text es k) p)
      → value_tree text literal (member_set (set_value text) Object v p k w) ≡ put (value_tree text literal v) (key k ∷ []) (value_tree text literal w)
  set_in_members v k w (Some es) is h = object_set v es k w is
  set_in_members v k w None is h = absurd (search rules)

  set_in_items : (v : Value K D) (i : ℕ) (w : Value K D) (p : Option (Vec (Value K D) Global)) → array_inside v ≡ p → IsSome (option_and_then (λ vs. slice_get vs.items i) p)
      → value_tree text literal (item_set Array v p i w) ≡ put (value_tree text literal v) (place i ∷ []) (value_tree text literal w)
  set_in_items v i w (Some vs) is h =
      array_set vs i w ∙ ap (λ u. put (value_tree text literal u) (place i ∷ []) (value_tree text literal w)) (made_of_items v vs is)
  set_in_items v i w None is h = absurd (search rules)

  -- a document after a write by key through what `get_mut` lends
  pub member_set_tree : (v : Value K D) (k : List ℕ) (w : Value K D) → IsSome (member_of text v k)
      → value_tree text literal (member_set (set_value text) Object v (members_inside v) k w) ≡ put (value_tree text literal v) (key k ∷ []) (value_tree text literal w)
  member_set_tree v k w h = set_in_members v k w (members_inside v) refl h

  -- a document after a write by index through what `get_idx_mut` lends
  pub item_set_tree : (v : Value K D) (i : ℕ) (w : Value K D) → IsSome (item_of v i)
      → value_tree text literal (item_set Array v (array_inside v) i w) ≡ put (value_tree text literal v) (place i ∷ []) (value_tree text literal w)
  item_set_tree v i w h = set_in_items v i w (array_inside v) refl (subst IsSome (item_of_vector v i) h)
