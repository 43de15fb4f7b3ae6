-- The members that the pairs of an object stand for.
use Rattle.std.proofs.Common.{◌≡◌, ℕ, Bool, true, false, cond, List, [], ◌∷◌, Option, Some, None, is_some, option_map, if◌then◌else◌, bytes_eq, refl, sym, ap, ◌∙◌}
use Rattle.sj_base.specs.Tree.{Tree, Members, member}
use Rattle.sj_base.specs.Path.{member_at}
use Rattle.sj_object.specs.Pairs.{value_at, put_key}
use Rattle.sj_object.specs.declared.entry.Entry.{Entry}
use Rattle.sj_build.specs.Trees.{members_of, on_values}
use Rattle.sj_build.specs.inside.Kept.{has_key, with_last, add_member}

is_some-map : {A B : Type 0} (f : A → B) (o : Option A) → is_some (option_map f o) ≡ is_some o
is_some-map f None = refl
is_some-map f (Some x) = refl

not_there : {A : Type 0} (o : Option A) → is_some o ≡ false → o ≡ None
not_there None h = refl
not_there (Some x) h = cc

-- a member that is there is not added
pub not_added : (ms : Members) (k : List ℕ) (t : Tree) → has_key ms k ≡ true → ms ≡ add_member ms k t
not_added ms k t there = sym (ap (λ b. cond b ms (with_last ms k t)) there)

module _ {K V : Type 0} (text : K → List ℕ) (tree : V → Tree) where
  found_first : (b : Bool) (v : V) (o : Option V) → option_map tree (if b then Some v else o) ≡ (if b then Some (tree v) else option_map tree o)
  found_first true v o = refl
  found_first false v o = refl

  -- a look-up in the pairs is one in the members
  pub value_member : (es : List (Entry K V)) (k : List ℕ) → option_map tree (value_at text es k) ≡ member_at (members_of text (on_values tree es)) k
  value_member [] k = refl
  value_member (e ∷ es) k =
      found_first (bytes_eq (text e.key) k) e.value (value_at text es k)
      ∙ ap (λ o. if bytes_eq (text e.key) k then Some (tree e.value) else o) (value_member es k)

  -- a key is there in both or in neither
  pub has_member : (es : List (Entry K V)) (k : List ℕ) → is_some (value_at text es k) ≡ has_key (members_of text (on_values tree es)) k
  has_member es k = sym (is_some-map tree (value_at text es k)) ∙ ap is_some (value_member es k)

  put_at : (e : Entry K V) (es : List (Entry K V)) (k : K) (v : V) (b : Bool)
      → is_some (if b then Some e.value else value_at text es (text k)) ≡ false
      → (is_some (value_at text es (text k)) ≡ false → members_of text (on_values tree (put_key text es k v)) ≡ with_last (members_of text (on_values tree es)) (text k) (tree v))
      → members_of text (on_values tree (if b then record e { value = v } ∷ es else e ∷ put_key text es k v)) ≡ with_last (members_of text (on_values tree (e ∷ es))) (text k) (tree v)
  put_at e es k v true there more = cc
  put_at e es k v false there more = ap (member (text e.key) (tree e.value)) (more there)

  -- a pair with a new key goes last
  pub put_last : (es : List (Entry K V)) (k : K) (v : V) → is_some (value_at text es (text k)) ≡ false
      → members_of text (on_values tree (put_key text es k v)) ≡ with_last (members_of text (on_values tree es)) (text k) (tree v)
  put_last [] k v new = refl
  put_last (e ∷ es) k v new = put_at e es k v (bytes_eq (text e.key) (text k)) new (put_last es k v)

  -- a key that no member has is not found
  pub not_found : (es : List (Entry K V)) (k : List ℕ) → has_key (members_of text (on_values tree es)) k ≡ false → value_at text es k ≡ None
  not_found es k new = not_there (value_at text es k) (has_member es k ∙ new)
