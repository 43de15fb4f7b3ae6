-- Edits of a document are edits of its tree.
use Rattle.std.proofs.Common.{◌≡◌, ℕ, true, false, List, [], ◌∷◌, ◌++◌, Result, refl, ap, sym, subst, ◌∙◌, Vec, Some, option_map, if◌then◌else◌, Bool, bytes_eq}
use Rattle.std.specs.Prelude.{OnOk, OnErr}
use native.Mathlib.Numerals.{unary_clauses}
use Rattle.std.specs.declared.alloc.Global.{Global}
use Rattle.sj_base.specs.Containers.{items_in, members_in}
use Rattle.sj_base.specs.Edit.{put_member, drop_member, push_item, pop_item}
use Rattle.sj_base.specs.Tree.{list, object, item, Members, member}
use Rattle.sj_object.specs.Pairs.{put_key, drop_key}
use Rattle.sj_object.specs.declared.entry.Entry.{Entry}
use Rattle.sj_owned.specs.Edits.{with_member, without_member, with_item, without_last, before_last}
use Rattle.sj_owned.specs.Views.{value_tree, items_view, members_view}
use Rattle.sj_owned.specs.declared.value.Value.{Value, Array, Object}
use Rattle.sj_owned.proofs.Layers.{tree-Array, tree-Object}

-- what holds on an answer holds on an equal one
module _ {T E : Type 0} (P : Type 0) (r s : Result T E) (e : r ≡ s) where
  pub ok_of : OnOk s P → OnOk r P
  ok_of h = subst (λ x. OnOk x P) (sym e) h

  pub err_of : OnErr s P → OnErr r P
  err_of h = subst (λ x. OnErr x P) (sym e) h

module _ {K D : Type 0} (text : K → List ℕ) (literal : D → List ℕ) where
  put_first : (b : Bool) (e : Entry K (Value K D)) (u : Value K D) (es more : List (Entry K (Value K D))) (ms : Members) → members_view text literal more ≡ ms
      → members_view text literal (if b then record e { value = u } ∷ es else e ∷ more) ≡ (if b then member (text e.key) (value_tree text literal u) (members_view text literal es) else member (text e.key) (value_tree text literal e.value) ms)
  put_first true e u es more ms same = refl
  put_first false e u es more ms same = ap (member (text e.key) (value_tree text literal e.value)) same

  -- a pair put is a member put
  pub members_put : (es : List (Entry K (Value K D))) (k : K) (u : Value K D) → members_view text literal (put_key text es k u) ≡ put_member (members_view text literal es) (text k) (value_tree text literal u)
  members_put [] k u = refl
  members_put (e ∷ es) k u = put_first (bytes_eq (text e.key) (text k)) e u es (put_key text es k u) _ (members_put es k u)

  drop_first : (b : Bool) (e : Entry K (Value K D)) (es more : List (Entry K (Value K D))) (ms : Members) → members_view text literal more ≡ ms
      → members_view text literal (if b then es else e ∷ more) ≡ (if b then members_view text literal es else member (text e.key) (value_tree text literal e.value) ms)
  drop_first true e es more ms same = refl
  drop_first false e es more ms same = ap (member (text e.key) (value_tree text literal e.value)) same

  -- a pair dropped is a member dropped
  pub members_dropped : (es : List (Entry K (Value K D))) (k : List ℕ) → members_view text literal (drop_key text es k) ≡ drop_member (members_view text literal es) k
  members_dropped [] k = refl
  members_dropped (e ∷ es) k = drop_first (bytes_eq (text e.key) k) e es (drop_key text es k) _ (members_dropped es k)

  -- one more value is one more item
  pub items_pushed : (vs : List (Value K D)) (u : Value K D) → items_view text literal (vs ++ u ∷ []) ≡ push_item (items_view text literal vs) (value_tree text literal u)
  items_pushed [] u = refl
  items_pushed (v ∷ vs) u = ap (item (value_tree text literal v)) (items_pushed vs u)

  -- one value less is one item less
  pub items_popped : (vs : List (Value K D)) → items_view text literal (before_last vs) ≡ pop_item (items_view text literal vs)
  items_popped [] = refl
  items_popped (v ∷ []) = refl
  items_popped (v ∷ w ∷ vs) = simp unary_clauses (ap (item (value_tree text literal v)) (simp unary_clauses at (items_popped (w ∷ vs))))

  members_within : (v : Value K D) (es : List (Entry K (Value K D))) → v ≡ Object es → members_in (value_tree text literal v) ≡ Some (members_view text literal es)
  members_within v es is = ap (λ u. members_in (value_tree text literal u)) is ∙ ap members_in (tree-Object text literal es)

  items_within : (v : Value K D) (vs : Vec (Value K D) Global) → v ≡ Array vs → items_in (value_tree text literal v) ≡ Some (items_view text literal vs.items)
  items_within v vs is = ap (λ u. items_in (value_tree text literal u)) is ∙ ap items_in (tree-Array text literal vs)

  -- an object in which a pair was put
  pub object_put : {w : Value K D} (v : Value K D) (es new : List (Entry K (Value K D))) (k : K) (u : Value K D) → v ≡ Object es → new ≡ put_key text es k u → w ≡ Object new
      → Some (value_tree text literal w) ≡ with_member (value_tree text literal v) (text k) (value_tree text literal u)
  object_put v es new k u is put now =
      ap Some (ap (value_tree text literal) now ∙ tree-Object text literal new ∙ ap (λ l. object (members_view text literal l)) put ∙ ap object (members_put es k u))
      ∙ sym (ap (option_map (λ ms. object (put_member ms (text k) (value_tree text literal u)))) (members_within v es is))

  -- an object from which a pair was dropped
  pub object_dropped : {w : Value K D} (v : Value K D) (es new : List (Entry K (Value K D))) (k : List ℕ) → v ≡ Object es → new ≡ drop_key text es k → w ≡ Object new
      → Some (value_tree text literal w) ≡ without_member (value_tree text literal v) k
  object_dropped v es new k is dropped now =
      ap Some (ap (value_tree text literal) now ∙ tree-Object text literal new ∙ ap (λ l. object (members_view text literal l)) dropped ∙ ap object (members_dropped es k))
      ∙ sym (ap (option_map (λ ms. object (drop_member ms k))) (members_within v es is))

  -- an array with one more item
  pub array_pushed : {w : Value K D} (v : Value K D) (vs new : Vec (Value K D) Global) (u : Value K D) → v ≡ Array vs → new.items ≡ vs.items ++ u ∷ [] → w ≡ Array new
      → Some (value_tree text literal w) ≡ with_item (value_tree text literal v) (value_tree text literal u)
  array_pushed v vs new u is pushed now =
      ap Some (ap (value_tree text literal) now ∙ tree-Array text literal new ∙ ap (λ l. list (items_view text literal l)) pushed ∙ ap list (items_pushed vs.items u))
      ∙ sym (ap (option_map (λ ts. list (push_item ts (value_tree text literal u)))) (items_within v vs is))

  -- an array without its last item
  pub array_popped : {w : Value K D} (v : Value K D) (vs new : Vec (Value K D) Global) → v ≡ Array vs → new.items ≡ before_last vs.items → w ≡ Array new
      → Some (value_tree text literal w) ≡ without_last (value_tree text literal v)
  array_popped v vs new is popped now =
      ap Some (ap (value_tree text literal) now ∙ tree-Array text literal new ∙ ap (λ l. list (items_view text literal l)) popped ∙ ap list (items_popped vs.items))
      ∙ sym (ap (option_map (λ ts. list (pop_item ts))) (items_within v vs is))

  -- arrays of the same items
  pub same_items : {w : Value K D} (v : Value K D) (vs new : Vec (Value K D) Global) → v ≡ Array vs → new.items ≡ vs.items → w ≡ Array new
      → value_tree text literal w ≡ value_tree text literal v
  same_items v vs new is same now =
      ap (value_tree text literal) now ∙ tree-Array text literal new ∙ ap (λ l. list (items_view text literal l)) same ∙ sym (ap (value_tree text literal) is ∙ tree-Array text literal vs)
