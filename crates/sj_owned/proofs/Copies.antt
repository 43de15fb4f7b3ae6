-- What copies and conversions keep of arrays and objects, part by part.
use Rattle.std.proofs.Common.{◌≡◌, ℕ, false, List, [], ◌∷◌, ◌++◌, None, map, refl, sym, ap, ap₂, ◌∙◌, Vec, rules, bytes_eq}
use Rattle.std.proofs.lemmas.Bool.{or_parts}
use Rattle.std.proofs.lemmas.List.{map-append}
use Rattle.std.specs.Cmp.Lexicographic.{nat_list_eq_equiv}
use Rattle.std.specs.List.{flat_map}
use Rattle.std.specs.declared.alloc.Global.{Global}
use Rattle.sj_base.specs.Tree.{list, object, Members, no_members, member}
use Rattle.sj_object.specs.Copies.{copied_pairs}
use Rattle.sj_object.specs.Pairs.{keys_of, value_at, put_key, has_text, AreDistinct}
use Rattle.sj_object.specs.declared.entry.Entry.{Entry}
use Rattle.sj_owned.specs.Copies.{text_leaf, on_leaf, leaves}
use Rattle.sj_build.specs.Trees.{items_of, members_of, on_values}
use Rattle.sj_owned.specs.Views.{value_tree}
use Rattle.sj_owned.specs.inside.Copying.{Kept, kept_key, kept_value, converted}
use Rattle.sj_owned.specs.declared.value.Value.{Value, Array, Object, the_lemmas}
use Rattle.sj_owned.proofs.Layers.{tree-Array, tree-Object}

-- what is kept of an array, of what is kept of its items
abbrev list_kept : {T L : Type 0} → List (Kept T L) → Kept T L
list_kept cs = (list (items_of (map (λ c. c.0) cs)), flat_map (λ c. c.1) cs)

abbrev object_members : {T L : Type 0} → List ((List ℕ × T) × Kept T L) → Members
object_members [] = no_members
object_members (p ∷ ps) = member p.0.0 p.1.0 (object_members ps)

-- what is kept of an object, of what is kept of its keys and values
abbrev object_kept : {T L : Type 0} → List ((List ℕ × T) × Kept T L) → Kept T L
object_kept ps = (object (object_members ps), flat_map (λ p. text_leaf p.0.1 ∷ p.1.1) ps)

module _ {K D T L : Type 0} (text : K → List ℕ) (literal : D → List ℕ) (key : K → T) (decimal : D → L) where
  leaves-Array : (v : Vec (Value K D) Global) → leaves key decimal (Array v) ≡ flat_map (λ ls. ls) (map (leaves key decimal) v.items)
  leaves-Array v = search (rules, the_lemmas)

  leaves-Object : (es : List (Entry K (Value K D))) → leaves key decimal (Object es) ≡ flat_map (λ e. text_leaf (key e.key) ∷ e.value) (on_values (leaves key decimal) es)
  leaves-Object es = search (rules, the_lemmas)

  item_trees : (vs : List (Value K D)) → map (value_tree text literal) vs ≡ map (λ c. c.0) (map (kept_value text literal key decimal) vs)
  item_trees [] = refl
  item_trees (v ∷ vs) = ap (λ ts. value_tree text literal v ∷ ts) (item_trees vs)

  item_leaves : (vs : List (Value K D)) → flat_map (λ ls. ls) (map (leaves key decimal) vs) ≡ flat_map (λ c. c.1) (map (kept_value text literal key decimal) vs)
  item_leaves [] = refl
  item_leaves (v ∷ vs) = ap (λ ls. leaves key decimal v ++ ls) (item_leaves vs)

  member_trees : (es : List (Entry K (Value K D))) → members_of text (on_values (value_tree text literal) es) ≡ object_members (copied_pairs (kept_key text key) (kept_value text literal key decimal) es)
  member_trees [] = refl
  member_trees (e ∷ es) = ap (member (text e.key) (value_tree text literal e.value)) (member_trees es)

  member_leaves : (es : List (Entry K (Value K D)))
      → flat_map (λ e. text_leaf (key e.key) ∷ e.value) (on_values (leaves key decimal) es) ≡ flat_map (λ p. text_leaf p.0.1 ∷ p.1.1) (copied_pairs (kept_key text key) (kept_value text literal key decimal) es)
  member_leaves [] = refl
  member_leaves (e ∷ es) = ap (λ ls. text_leaf (key e.key) ∷ (leaves key decimal e.value ++ ls)) (member_leaves es)

  pub kept-Array : (v : Vec (Value K D) Global) → kept_value text literal key decimal (Array v) ≡ list_kept (map (kept_value text literal key decimal) v.items)
  kept-Array v =
      ap₂ (λ t ls. (t, ls)) (tree-Array text literal v ∙ ap (λ ts. list (items_of ts)) (item_trees v.items)) (leaves-Array v ∙ item_leaves v.items)

  pub kept-Object : (es : List (Entry K (Value K D)))
      → kept_value text literal key decimal (Object es) ≡ object_kept (copied_pairs (kept_key text key) (kept_value text literal key decimal) es)
  kept-Object es = ap₂ (λ t ls. (t, ls)) (tree-Object text literal es ∙ ap object (member_trees es)) (leaves-Object es ∙ member_leaves es)

  -- an array of copies
  pub array_copied : (v : Value K D) (vs ws : Vec (Value K D) Global) → v ≡ Array vs
      → map (kept_value text literal key decimal) ws.items ≡ map (kept_value text literal key decimal) vs.items
      → kept_value text literal key decimal (Array ws) ≡ kept_value text literal key decimal v
  array_copied v vs ws is same = kept-Array ws ∙ ap list_kept same ∙ sym (ap (kept_value text literal key decimal) is ∙ kept-Array vs)

  -- an object of copies
  pub object_copied : (v : Value K D) (es fs : List (Entry K (Value K D))) → v ≡ Object es
      → copied_pairs (kept_key text key) (kept_value text literal key decimal) fs ≡ copied_pairs (kept_key text key) (kept_value text literal key decimal) es
      → kept_value text literal key decimal (Object fs) ≡ kept_value text literal key decimal v
  object_copied v es fs is same = kept-Object fs ∙ ap object_kept same ∙ sym (ap (kept_value text literal key decimal) is ∙ kept-Object es)

module _ {K D T L U M : Type 0} (text : K → List ℕ) (literal : D → List ℕ) (key : K → T) (decimal : D → L) (f : T → U) (h : L → M) where
  abbrev new_value : Value K D → Kept U M
  new_value v = converted f h (kept_value text literal key decimal v)

  abbrev new_key : K → List ℕ × U
  new_key = kept_key text (λ k. f (key k))

  trees_stay : (vs : List (Value K D)) → map (λ c. c.0) (map new_value vs) ≡ map (λ c. c.0) (map (kept_value text literal key decimal) vs)
  trees_stay [] = refl
  trees_stay (v ∷ vs) = ap (λ ts. value_tree text literal v ∷ ts) (trees_stay vs)

  item_leaves_new : (vs : List (Value K D)) → flat_map (λ c. c.1) (map new_value vs) ≡ map (on_leaf f h) (flat_map (λ c. c.1) (map (kept_value text literal key decimal) vs))
  item_leaves_new [] = refl
  item_leaves_new (v ∷ vs) =
      let rest = flat_map (λ (c : Kept T L). c.1) (map (kept_value text literal key decimal) vs) in
      ap (λ ls. map (on_leaf f h) (leaves key decimal v) ++ ls) (item_leaves_new vs) ∙ sym (map-append (on_leaf f h) (leaves key decimal v) rest)

  members_stay : (es : List (Entry K (Value K D))) → object_members (copied_pairs new_key new_value es) ≡ object_members (copied_pairs (kept_key text key) (kept_value text literal key decimal) es)
  members_stay [] = refl
  members_stay (e ∷ es) = ap (member (text e.key) (value_tree text literal e.value)) (members_stay es)

  member_leaves_new : (es : List (Entry K (Value K D)))
      → flat_map (λ p. text_leaf p.0.1 ∷ p.1.1) (copied_pairs new_key new_value es)
      ≡ map (on_leaf f h) (flat_map (λ p. text_leaf p.0.1 ∷ p.1.1) (copied_pairs (kept_key text key) (kept_value text literal key decimal) es))
  member_leaves_new [] = refl
  member_leaves_new (e ∷ es) =
      let rest = flat_map (λ (p : (List ℕ × T) × Kept T L). text_leaf p.0.1 ∷ p.1.1) (copied_pairs (kept_key text key) (kept_value text literal key decimal) es) in
      ap (λ ls. text_leaf (f (key e.key)) ∷ (map (on_leaf f h) (leaves key decimal e.value) ++ ls)) (member_leaves_new es)
      ∙ ap (λ ls. text_leaf (f (key e.key)) ∷ ls) (sym (map-append (on_leaf f h) (leaves key decimal e.value) rest))

  list_converted : (vs : List (Value K D)) → list_kept (map new_value vs) ≡ converted f h (list_kept (map (kept_value text literal key decimal) vs))
  list_converted vs = ap₂ (λ t ls. (t, ls)) (ap (λ ts. list (items_of ts)) (trees_stay vs)) (item_leaves_new vs)

  members_converted : (es : List (Entry K (Value K D)))
      → object_kept (copied_pairs new_key new_value es) ≡ converted f h (object_kept (copied_pairs (kept_key text key) (kept_value text literal key decimal) es))
  members_converted es = ap₂ (λ t ls. (t, ls)) (ap object (members_stay es)) (member_leaves_new es)

  module _ {J E : Type 0} (text' : J → List ℕ) (literal' : E → List ℕ) (key' : J → U) (decimal' : E → M) where
    -- an array of converted items
    pub array_converted : (v : Value K D) (vs : Vec (Value K D) Global) (ws : Vec (Value J E) Global) → v ≡ Array vs
        → map (kept_value text' literal' key' decimal') ws.items ≡ map new_value vs.items
        → kept_value text' literal' key' decimal' (Array ws) ≡ new_value v
    array_converted v vs ws is same =
        kept-Array text' literal' key' decimal' ws
        ∙ ap list_kept same
        ∙ list_converted vs.items
        ∙ ap (converted f h) (sym (ap (kept_value text literal key decimal) is ∙ kept-Array text literal key decimal vs))

    -- an object of converted members
    pub object_converted : (v : Value K D) (es : List (Entry K (Value K D))) (fs : List (Entry J (Value J E))) → v ≡ Object es
        → copied_pairs (kept_key text' key') (kept_value text' literal' key' decimal') fs ≡ copied_pairs new_key new_value es
        → kept_value text' literal' key' decimal' (Object fs) ≡ new_value v
    object_converted v es fs is same =
        kept-Object text' literal' key' decimal' fs
        ∙ ap object_kept same
        ∙ members_converted es
        ∙ ap (converted f h) (sym (ap (kept_value text literal key decimal) is ∙ kept-Object text literal key decimal es))

same_first : {X : Type 0} (x y : X) (xs ys : List X) → x ∷ xs ≡ y ∷ ys → x ≡ y
same_first x y xs ys h = cc

same_rest : {X : Type 0} (x y : X) (xs ys : List X) → x ∷ xs ≡ y ∷ ys → xs ≡ ys
same_rest x y xs ys h = cc

module _ {K V J W T C : Type 0} (text : K → List ℕ) (key : K → T) (value : V → C) (text' : J → List ℕ) (key' : J → T) (value' : W → C) where
  other_key : (done left : List (Entry K V)) (e : Entry K V) (k : List ℕ) → has_text (keys_of text (done ++ e ∷ left)) k ≡ false → bytes_eq (text e.key) k ≡ false
  other_key [] left e k new = (or_parts (bytes_eq (text e.key) k) (has_text (keys_of text left) k) new).0
  other_key (d ∷ done) left e k new = other_key done left e k (or_parts (bytes_eq (text d.key) k) (has_text (keys_of text (done ++ e ∷ left)) k) new).1

  -- The next pair goes last, since the keys are distinct.
  pub next_copied : (copies : List (Entry J W)) (done left : List (Entry K V)) (e : Entry K V) (k : J) (v : W) → AreDistinct (keys_of text (done ++ e ∷ left))
      → copied_pairs (kept_key text' key') value' copies ≡ copied_pairs (kept_key text key) value done
      → kept_key text' key' k ≡ kept_key text key e.key → value' v ≡ value e.value
      → copied_pairs (kept_key text' key') value' (put_key text' copies k v) ≡ copied_pairs (kept_key text key) value (done ++ e ∷ [])
  next_copied [] [] left e k v distinct same name now = ap₂ (λ x y. (x, y) ∷ []) name now
  next_copied [] (d ∷ done) left e k v distinct same name now = cc
  next_copied (c ∷ copies) [] left e k v distinct same name now = cc
  next_copied (c ∷ copies) (d ∷ done) left e k v distinct same name now =
      let first = same_first (kept_key text' key' c.key, value' c.value) (kept_key text key d.key, value d.value) (copied_pairs (kept_key text' key') value' copies) (copied_pairs (kept_key text key) value done) same in
      let rest = same_rest (kept_key text' key' c.key, value' c.value) (kept_key text key d.key, value d.value) (copied_pairs (kept_key text' key') value' copies) (copied_pairs (kept_key text key) value done) same in
      let apart : bytes_eq (text' c.key) (text' k) ≡ false =
      ap₂ bytes_eq (ap (λ p. p.0.0) first) (ap (λ p. p.0) name)
      ∙ nat_list_eq_equiv.symm (text d.key) (text e.key)
      ∙ other_key done left e (text d.key) distinct.0 in
      rw apart (ap₂ (λ p ps. p ∷ ps) first (next_copied copies done left e k v distinct.1 rest name now))

  -- The next key is not there yet.
  pub next_is_new : (copies : List (Entry J W)) (done left : List (Entry K V)) (e : Entry K V) (name : List ℕ) → AreDistinct (keys_of text (done ++ e ∷ left))
      → copied_pairs (kept_key text' key') value' copies ≡ copied_pairs (kept_key text key) value done
      → name ≡ text e.key → value_at text' copies name ≡ None
  next_is_new [] done left e name distinct same is = refl
  next_is_new (c ∷ copies) [] left e name distinct same is = cc
  next_is_new (c ∷ copies) (d ∷ done) left e name distinct same is =
      let first = same_first (kept_key text' key' c.key, value' c.value) (kept_key text key d.key, value d.value) (copied_pairs (kept_key text' key') value' copies) (copied_pairs (kept_key text key) value done) same in
      let rest = same_rest (kept_key text' key' c.key, value' c.value) (kept_key text key d.key, value d.value) (copied_pairs (kept_key text' key') value' copies) (copied_pairs (kept_key text key) value done) same in
      let apart : bytes_eq (text' c.key) name ≡ false =
      ap₂ bytes_eq (ap (λ p. p.0.0) first) is ∙ nat_list_eq_equiv.symm (text d.key) (text e.key) ∙ other_key done left e (text d.key) distinct.0 in
      rw apart (next_is_new copies done left e name distinct.1 rest is)
