-- An edit of the part that a path selects, step by step along the path.
use Rattle.std.proofs.Common.{◌≡◌, ℕ, zero, suc, List, [], ◌∷◌, Bool, true, false, cond, Option, Some, None, Result, Ok, Err, Vec, refl, sym, ap, ◌∙◌, arith, option_map, ◌<◌, ◌≤◌, length, get_or}
use Rattle.std.specs.Prelude.{option_and_then, ok_or, codes, bytes_eq}
use Rattle.std.specs.Vec.{with_item}
use Rattle.std.specs.declared.alloc.Global.{Global}
use Rattle.std.proofs.lemmas.Option.{same_Some}
use Rattle.sj_base.specs.Tree.{Tree, null, boolean, integer, decimal, string, list, object, Items, no_items, item, Members, no_members, member}
use Rattle.sj_base.specs.Path.{Part, key, place, child, at, member_at, item_at, change_member, change_item, change_child, put}
use Rattle.sj_object.specs.declared.entry.Entry.{Entry}
use Rattle.sj_object.specs.Pairs.{value_at, set_value}
use Rattle.sj_owned.specs.Views.{value_tree, items_view, array_inside, members_inside}
use Rattle.sj_owned.specs.inside.Lending.{made_of_items, made_of_members}
use Rattle.sj_owned.specs.declared.value.Value.{Value, Array, Object}
use Rattle.sj_owned.proofs.Layers.{tree-Array}
use Rattle.sj_build.proofs.Members.{value_member}
use Rattle.sj_owned.proofs.Writes.{tree_of_members, object_set, array_set}
use Rattle.sj_scripts.specs.Command.{◌>>=◌}
use Rattle.sj_documents.specs.Step.{Word, Rewrite, part_at, reply_of, write_at}
use Rattle.sj_scripts.specs.declared.memory_or.MemoryOr.{MemoryOr}
use Rattle.sj_scripts.specs.declared.memory_or.MemoryOr.TheVariants.{Memory, Refused}
use Rattle.sj_documents.specs.declared.refusal.Refusal.{Refusal}
use Rattle.sj_documents.specs.inside.Documents.{IsEdited}

-- ---- a change of a part that is there is a replacement of it

module _ (f : Tree → Tree) (u : Tree) where
  change_first : (b : Bool) (n : List ℕ) (t : Tree) (ms more same : Members) (o : Option Tree) → cond b (Some t) o ≡ Some u → (o ≡ Some u → more ≡ same)
      → cond b (member n (f t) ms) (member n t more) ≡ cond b (member n (f u) ms) (member n t same)
  change_first true n t ms more same o found rest = ap (λ v. member n (f v) ms) (same_Some t u found)
  change_first false n t ms more same o found rest = ap (member n t) (rest found)

  member_changed : (ms : Members) (k : List ℕ) → member_at ms k ≡ Some u → change_member f ms k ≡ change_member (λ _. f u) ms k
  member_changed no_members k found = refl
  member_changed (member n t ms) k found = change_first (bytes_eq n k) n t ms (change_member f ms k) (change_member (λ _. f u) ms k) (member_at ms k) found (member_changed ms k)

  item_changed : (ts : Items) (n : ℕ) → item_at ts n ≡ Some u → change_item f ts n ≡ change_item (λ _. f u) ts n
  item_changed no_items n found = refl
  item_changed (item t ts) zero found = ap (λ v. item (f v) ts) (same_Some t u found)
  item_changed (item t ts) (suc n) found = ap (item t) (item_changed ts n found)

  child_changed : (t : Tree) (p : Part) → child t p ≡ Some u → change_child f t p ≡ change_child (λ _. f u) t p
  child_changed (object ms) (key k) found = ap object (member_changed ms k found)
  child_changed (list ts) (place n) found = ap list (item_changed ts n found)
  child_changed (object ms) (place n) found = refl
  child_changed (list ts) (key k) found = refl
  child_changed null p found = refl
  child_changed (boolean b) p found = refl
  child_changed (integer n) p found = refl
  child_changed (decimal literal) p found = refl
  child_changed (string s) p found = refl

either_same : (b : Bool) (ms : Members) → cond b ms ms ≡ ms
either_same true ms = refl
either_same false ms = refl

member_unchanged : (ms : Members) (k : List ℕ) → change_member (λ v. v) ms k ≡ ms
member_unchanged no_members k = refl
member_unchanged (member n t ms) k = ap (λ r. cond (bytes_eq n k) (member n t ms) (member n t r)) (member_unchanged ms k) ∙ either_same (bytes_eq n k) (member n t ms)

item_unchanged : (ts : Items) (n : ℕ) → change_item (λ v. v) ts n ≡ ts
item_unchanged no_items n = refl
item_unchanged (item t ts) zero = refl
item_unchanged (item t ts) (suc n) = ap (item t) (item_unchanged ts n)

child_unchanged : (t : Tree) (p : Part) → change_child (λ v. v) t p ≡ t
child_unchanged (object ms) (key k) = ap object (member_unchanged ms k)
child_unchanged (list ts) (place n) = ap list (item_unchanged ts n)
child_unchanged (object ms) (place n) = refl
child_unchanged (list ts) (key k) = refl
child_unchanged null p = refl
child_unchanged (boolean b) p = refl
child_unchanged (integer n) p = refl
child_unchanged (decimal literal) p = refl
child_unchanged (string s) p = refl

-- a part put in its own place
put_same : (t u : Tree) (p : Part) → child t p ≡ Some u → put t (p ∷ []) u ≡ t
put_same t u p found = sym (child_changed (λ v. v) u t p found) ∙ child_unchanged t p

-- ---- a write one step down

abbrev done : (Tree → Tree) → Tree × Tree → Result (Tree × Tree) Word
done g w = Ok (w.0, g w.1)

done_twice : (r : Result (Tree × Tree) Word) (g h q : Tree → Tree) → ((new : Tree) → g new ≡ q (h new)) → (r >>= done g) ≡ ((r >>= done h) >>= done q)
done_twice (Err word) g h q same = refl
done_twice (Ok w) g h q same = ap (λ new. done (λ _. new) w) (same w.1)

found_twice : (r : Result Tree Word) (change : Rewrite) (g h q : Tree → Tree) → ((new : Tree) → g new ≡ q (h new))
    → (r >>= λ part. change part >>= done g) ≡ ((r >>= λ part. change part >>= done h) >>= done q)
found_twice (Err word) change g h q same = refl
found_twice (Ok part) change g h q same = done_twice (change part) g h q same

module _ (t u : Tree) (p : Part) (rest : List Part) (change : Rewrite) (there : child t p ≡ Some u) where
  write_below : write_at t (p ∷ rest) change ≡ (write_at u rest change >>= done (λ new. put t (p ∷ []) new))
  write_below =
      ap (λ o. ok_or (option_and_then (λ v. at v rest) o) (codes "NoSuchPath") >>= λ part. change part >>= done (λ new. put t (p ∷ rest) new)) there
      ∙ found_twice (part_at u rest) change (λ new. put t (p ∷ rest) new) (λ new. put u rest new) (λ new. put t (p ∷ []) new) (λ new. child_changed (λ v. put v rest new) u t p there)

  -- an edit below is an edit of the whole
  pub edited_below : {V : Type 0} (tree : V → Tree) (r : Result (Option V) (MemoryOr Refusal)) (t2 u2 : Tree) → t2 ≡ put t (p ∷ []) u2
      → IsEdited tree r u u2 (write_at u rest change) → IsEdited tree r t t2 (write_at t (p ∷ rest) change)
  edited_below tree (Ok found) t2 u2 is edited =
      write_below ∙ ap (λ w. w >>= done (λ new. put t (p ∷ []) new)) edited ∙ ap (λ new. done (λ _. new) (reply_of (option_map tree found), u2)) (sym is)
  edited_below tree (Err (Refused why)) t2 u2 is edited =
      (write_below ∙ ap (λ w. w >>= done (λ new. put t (p ∷ []) new)) edited.0, is ∙ ap (λ v. put t (p ∷ []) v) edited.1 ∙ put_same t u p there)
  edited_below tree (Err Memory) t2 u2 is edited = is ∙ ap (λ v. put t (p ∷ []) v) edited ∙ put_same t u p there

-- nothing is written where there is no part
pub write_nowhere : (t : Tree) (p : Part) (rest : List Part) (change : Rewrite) → child t p ≡ None → write_at t (p ∷ rest) change ≡ Err (codes "NoSuchPath")
write_nowhere t p rest change none =
    ap (λ o. ok_or (option_and_then (λ v. at v rest) o) (codes "NoSuchPath") >>= λ part. change part >>= done (λ new. put t (p ∷ rest) new)) none

-- ---- the members and the items of a document

module _ {K D : Type 0} (text : K → List ℕ) (literal : D → List ℕ) (v : Value K D) where
  module _ (es : List (Entry K (Value K D))) (k : List ℕ) (is : members_inside v ≡ Some es) where
    pub member_child : child (value_tree text literal v) (key k) ≡ option_map (value_tree text literal) (value_at text es k)
    member_child = ap (λ t. child t (key k)) (tree_of_members text literal v es is) ∙ sym (value_member text (value_tree text literal) es k)

    pub object_again : value_tree text literal (Object es) ≡ value_tree text literal v
    object_again = ap (value_tree text literal) (made_of_members v es is)

    pub member_edited : (m w : Value K D) (rest : List Part) (change : Rewrite) (r : Result (Option (Value K D)) (MemoryOr Refusal)) → Some m ≡ value_at text es k
        → IsEdited (value_tree text literal) r (value_tree text literal m) (value_tree text literal w) (write_at (value_tree text literal m) rest change)
        → IsEdited (value_tree text literal) r (value_tree text literal v) (value_tree text literal (Object (set_value text es k w))) (write_at (value_tree text literal v) (key k ∷ rest) change)
    member_edited m w rest change r found edited =
        edited_below (value_tree text literal v) (value_tree text literal m) (key k) rest change (member_child ∙ sym (ap (option_map (value_tree text literal)) found)) (value_tree text literal) r _ (value_tree text literal w)
        (object_set text literal v es k w is) edited

    pub member_missing : (rest : List Part) (change : Rewrite) → None ≡ value_at text es k → write_at (value_tree text literal v) (key k ∷ rest) change ≡ Err (codes "NoSuchPath")
    member_missing rest change none = write_nowhere (value_tree text literal v) (key k) rest change (member_child ∙ sym (ap (option_map (value_tree text literal)) none))

  item_there : (vs : List (Value K D)) (i : ℕ) (m : Value K D) → i < length vs → m ≡ get_or vs i m → Some (value_tree text literal m) ≡ item_at (items_view text literal vs) i
  item_there [] i m within is = absurd (omega arith)
  item_there (x ∷ vs) zero m within is = ap (λ y. Some (value_tree text literal y)) is
  item_there (x ∷ vs) (suc i) m within is = item_there vs i m (omega arith) is

  item_beyond : (vs : List (Value K D)) (i : ℕ) → length vs ≤ i → item_at (items_view text literal vs) i ≡ None
  item_beyond [] i past = refl
  item_beyond (x ∷ vs) zero past = absurd (omega arith)
  item_beyond (x ∷ vs) (suc i) past = item_beyond vs i (omega arith)

  module _ (vs : Vec (Value K D) Global) (i : ℕ) (is : array_inside v ≡ Some vs) where
    pub array_again : value_tree text literal (Array vs) ≡ value_tree text literal v
    array_again = ap (value_tree text literal) (made_of_items v vs is)

    array_child : child (value_tree text literal v) (place i) ≡ item_at (items_view text literal vs.items) i
    array_child = ap (λ t. child t (place i)) (sym array_again ∙ tree-Array text literal vs)

    pub item_edited : (m w : Value K D) (rest : List Part) (change : Rewrite) (r : Result (Option (Value K D)) (MemoryOr Refusal)) → i < length vs.items → m ≡ get_or vs.items i m
        → IsEdited (value_tree text literal) r (value_tree text literal m) (value_tree text literal w) (write_at (value_tree text literal m) rest change)
        → IsEdited (value_tree text literal) r (value_tree text literal v) (value_tree text literal (Array (with_item vs i w))) (write_at (value_tree text literal v) (place i ∷ rest) change)
    item_edited m w rest change r within found edited =
        edited_below (value_tree text literal v) (value_tree text literal m) (place i) rest change (array_child ∙ sym (item_there vs.items i m within found)) (value_tree text literal) r _ (value_tree text literal w)
        (array_set text literal vs i w ∙ ap (λ t. put t (place i ∷ []) (value_tree text literal w)) array_again) edited

    pub item_missing : (rest : List Part) (change : Rewrite) → length vs.items ≤ i → write_at (value_tree text literal v) (place i ∷ rest) change ≡ Err (codes "NoSuchPath")
    item_missing rest change past = write_nowhere (value_tree text literal v) (place i) rest change (array_child ∙ item_beyond vs.items i past)
