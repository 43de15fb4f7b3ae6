-- The tree of a document, level by level.
use Rattle.std.proofs.Common.{◌≡◌, ℕ, zero, suc, true, false, ◌+◌, ◌<◌, ◌≤◌, length, drop, get_or, slice_get, List, [], ◌∷◌, refl, sym, ap, ◌∙◌, rules, arith, Vec, Option, Some, None, option_map, if◌then◌else◌, Bool, bytes_eq}
use Rattle.std.specs.Borrow.{Bor}
use Rattle.std.specs.Slice.{IsGetResult}
use Rattle.std.specs.Option.{option_copied}
use Rattle.std.specs.declared.alloc.Global.{Global}
use Rattle.sj_base.specs.Tree.{list, object, item, member}
use Rattle.sj_base.specs.declared.static_node.ValueType.TheVariants.{Decimal as decimal_type}
use Rattle.sj_base.specs.Path.{item_at, member_at}
use Rattle.sj_object.specs.Pairs.{value_at}
use Rattle.sj_object.specs.declared.entry.Entry.{Entry}
use Rattle.sj_owned.specs.Views.{value_tree, value_kind, items_view, members_view, items_inside}
use Rattle.sj_owned.specs.declared.value.Value.{Value, Decimal, Array, Object, the_lemmas}
use Rattle.sj_owned.proofs.Pieces.{cut_at}

module _ {K D : Type 0} (text : K → List ℕ) (literal : D → List ℕ) where
  pub tree-Array : (v : Vec (Value K D) Global) → value_tree text literal (Array v) ≡ list (items_view text literal v.items)
  tree-Array v = search (rules, the_lemmas)

  pub tree-Object : (es : List (Entry K (Value K D))) → value_tree text literal (Object es) ≡ object (members_view text literal es)
  tree-Object es = search (rules, the_lemmas)

  -- the items from an index on, by the first of them
  pub items_cut : (vs : List (Value K D)) (i : ℕ) (v : Value K D) → i < length vs → v ≡ get_or vs i v → items_view text literal (drop i vs) ≡ item (value_tree text literal v) (items_view text literal (drop (i + 1) vs))
  items_cut vs i v within is = ap (items_view text literal) (cut_at vs i v within is)

  -- the members that are left, by the first of them
  pub members_cut : (es left : List (Entry K (Value K D))) (k : K) (v : Value K D) (name : List ℕ) → es ≡ record { key = k; value = v } ∷ left → name ≡ text k → members_view text literal es ≡ member name (value_tree text literal v) (members_view text literal left)
  members_cut es left k v name first is = ap (members_view text literal) first ∙ ap (λ s. member s (value_tree text literal v) (members_view text literal left)) (sym is)

  pub items_inside-Array : (v : Vec (Value K D) Global) → items_inside (Array v) ≡ Some v.items
  items_inside-Array v = search (rules, the_lemmas)

  pub kind-Decimal : (d : D) → value_kind {K = K} (Decimal d) ≡ decimal_type
  kind-Decimal d = search (rules, the_lemmas)

  item_within : (vs : List (Value K D)) (i : ℕ) (v : Value K D) → i < length vs → Some (value_tree text literal (get_or vs i v)) ≡ item_at (items_view text literal vs) i
  item_within [] i v within = absurd (omega arith)
  item_within (u ∷ vs) zero v within = refl
  item_within (u ∷ vs) (suc i) v within = item_within vs i v (omega arith)

  item_past : (vs : List (Value K D)) (i : ℕ) → length vs ≤ i → None ≡ item_at (items_view text literal vs) i
  item_past [] i past = refl
  item_past (u ∷ vs) zero past = absurd (omega arith)
  item_past (u ∷ vs) (suc i) past = item_past vs i (omega arith)

  -- what `get` finds at an index
  pub item_found : (vs : List (Value K D)) (i : ℕ) (r : Option (Bor (Value K D))) → IsGetResult vs i i r → option_map (λ (v : Bor (Value K D)). value_tree text literal v.now) r ≡ item_at (items_view text literal vs) i
  item_found vs i None h = item_past vs i h.3
  item_found vs i (Some x) h = ap (λ v. Some (value_tree text literal v)) h.1 ∙ item_within vs i x.now h.3.0

  slice_within : (vs : List (Value K D)) (i : ℕ) (v : Value K D) → i < length vs → Some (get_or vs i v) ≡ slice_get vs i
  slice_within [] i v within = absurd (omega arith)
  slice_within (u ∷ vs) zero v within = refl
  slice_within (u ∷ vs) (suc i) v within = slice_within vs i v (omega arith)

  slice_past : (vs : List (Value K D)) (i : ℕ) → length vs ≤ i → None ≡ slice_get vs i
  slice_past [] i past = refl
  slice_past (u ∷ vs) zero past = absurd (omega arith)
  slice_past (u ∷ vs) (suc i) past = slice_past vs i (omega arith)

  -- which value `get` finds at an index
  pub value_found : (vs : List (Value K D)) (i : ℕ) (r : Option (Bor (Value K D))) → IsGetResult vs i i r → option_copied r ≡ slice_get vs i
  value_found vs i None h = slice_past vs i h.3
  value_found vs i (Some x) h = ap Some h.1 ∙ slice_within vs i x.now h.3.0

  found_first : (b : Bool) (v : Value K D) (o : Option (Value K D)) → option_map (value_tree text literal) (if b then Some v else o) ≡ (if b then Some (value_tree text literal v) else option_map (value_tree text literal) o)
  found_first true v o = refl
  found_first false v o = refl

  -- a look-up in the pairs is one in the members
  pub value_member : (es : List (Entry K (Value K D))) (k : List ℕ) → option_map (value_tree text literal) (value_at text es k) ≡ member_at (members_view text literal es) k
  value_member [] k = refl
  value_member (e ∷ es) k =
      found_first (bytes_eq (text e.key) k) e.value (value_at text es k)
      ∙ ap (λ o. if bytes_eq (text e.key) k then Some (value_tree text literal e.value) else o) (value_member es k)

  -- what `get` finds under a key
  pub member_found : (es : List (Entry K (Value K D))) (k : List ℕ) (r : Option (Bor (Value K D))) → option_copied r ≡ value_at text es k → option_map (λ (v : Bor (Value K D)). value_tree text literal v.now) r ≡ member_at (members_view text literal es) k
  member_found es k None h = ap (option_map (value_tree text literal)) h ∙ value_member es k
  member_found es k (Some v) h = ap (option_map (value_tree text literal)) h ∙ value_member es k
