-- Parts of a document, and what edits of it return, seen on its tree.
use Rattle.std.proofs.Common.{◌≡◌, ℕ, List, [], ◌∷◌, Option, Some, None, Result, Ok, Err, ok_or, option_map, option_and_then, IfOk, IfErr, IsOk, IsSome, IsNone, refl, ap, subst, sym, ◌∙◌, rules}
use native.Mathlib.Numerals.{unary_clauses}
use Rattle.std.proofs.lemmas.Bool.{false≢true}
use Rattle.sj_base.specs.Containers.{items_in, members_in}
use Rattle.sj_base.specs.Edit.{last_item}
use Rattle.sj_base.specs.Path.{key, member_at, child}
use Rattle.sj_base.specs.Tree.{Tree, null, boolean, integer, decimal, string, list, object}
use Rattle.sj_base.specs.declared.fault.AccessError.{AccessError}
use Rattle.sj_object.specs.Pairs.{value_at}
use Rattle.sj_object.specs.declared.entry.Entry.{Entry}
use Rattle.sj_owned.specs.Edits.{last_of}
use Rattle.sj_owned.specs.Parts.{member_of}
use Rattle.sj_owned.specs.Views.{value_tree, items_view, members_view, items_inside, members_inside}
use Rattle.sj_owned.specs.declared.value.Value.{Value, Static, Decimal, String, Array', Object', the_lemmas}
use Rattle.sj_owned.proofs.Layers.{value_member}

child_by_key : (t : Tree) (k : List ℕ) → child t (key k) ≡ option_and_then (λ ms. member_at ms k) (members_in t)
child_by_key null k = refl
child_by_key (boolean b) k = refl
child_by_key (integer n) k = refl
child_by_key (decimal d) k = refl
child_by_key (string s) k = refl
child_by_key (list ts) k = refl
child_by_key (object ms) k = refl

module _ {K D : Type 0} (text : K → List ℕ) (literal : D → List ℕ) where
  -- the members and the items of a tree are those of its document
  pub members_of_tree : (v : Value K D) → members_in (value_tree text literal v) ≡ option_map (members_view text literal) (members_inside v)
  members_of_tree (Static s) = search (rules, the_lemmas)
  members_of_tree (Decimal d) = search (rules, the_lemmas)
  members_of_tree (String s) = search (rules, the_lemmas)
  members_of_tree (Array' shape all) = search (rules, the_lemmas)
  members_of_tree (Object' shape all) = search (rules, the_lemmas)

  pub items_of_tree : (v : Value K D) → items_in (value_tree text literal v) ≡ option_map (items_view text literal) (items_inside v)
  items_of_tree (Static s) = search (rules, the_lemmas)
  items_of_tree (Decimal d) = search (rules, the_lemmas)
  items_of_tree (String s) = search (rules, the_lemmas)
  items_of_tree (Array' shape all) = search (rules, the_lemmas)
  items_of_tree (Object' shape all) = search (rules, the_lemmas)

  member_of_members : (m : Option (List (Entry K (Value K D)))) (k : List ℕ)
      → option_map (value_tree text literal) (option_and_then (λ es. value_at text es k) m) ≡ option_and_then (λ ms. member_at ms k) (option_map (members_view text literal) m)
  member_of_members None k = refl
  member_of_members (Some es) k = value_member text literal es k

  -- the child with a key is the tree of the member with that key
  pub member_of_tree : (v : Value K D) (t : Tree) (k : List ℕ) → value_tree text literal v ≡ t → option_map (value_tree text literal) (member_of text v k) ≡ child t (key k)
  member_of_tree v t k is = member_of_members (members_inside v) k ∙ ap (option_and_then (λ ms. member_at ms k)) (sym (members_of_tree v) ∙ ap members_in is) ∙ sym (child_by_key t k)

  -- the value that `insert` returns
  pub replaced : (v : Value K D) (t : Tree) (k : List ℕ) (r : Result (Option (Value K D)) AccessError)
      → value_tree text literal v ≡ t
      → IfOk r (λ old. old ≡ member_of text v k)
      → IfOk r (λ old. option_map (value_tree text literal) old ≡ child t (key k))
  replaced v t k (Ok old) is h = ap (option_map (value_tree text literal)) h ∙ member_of_tree v t k is
  replaced v t k (Err e) is h = tt

  -- where `insert` is refused, no child has the key
  pub no_child : (v : Value K D) (t : Tree) (k : List ℕ) (r : Result (Option (Value K D)) AccessError)
      → value_tree text literal v ≡ t
      → (IsSome (member_of text v k) → IsOk r)
      → IfErr r (λ e. IsNone (child t (key k)))
  no_child v t k (Ok old) is succeeds = tt
  no_child v t k (Err e) is succeeds = by_member (member_of text v k) refl
    where
      by_member : (m : Option (Value K D)) → member_of text v k ≡ m → IsNone (child t (key k))
      by_member None none = subst IsNone (ap (option_map (value_tree text literal)) (sym none) ∙ member_of_tree v t k is) refl
      by_member (Some w) some = absurd (false≢true (subst (λ m. IsSome m → IsOk {T = Option (Value K D)} (Err e)) some succeeds refl))

  removed_from : (m : Option (List (Entry K (Value K D)))) (t : Tree) (k : List ℕ) (e : AccessError) (r : Result (Option (Value K D)) AccessError)
      → option_map (value_tree text literal) (option_and_then (λ es. value_at text es k) m) ≡ child t (key k)
      → r ≡ ok_or (option_map (λ es. value_at text es k) m) e
      → IfOk r (λ old. option_map (value_tree text literal) old ≡ child t (key k))
  removed_from None t k e r found h = rw h tt
  removed_from (Some es) t k e r found h = rw h found

  -- the value that `remove` returns
  pub removed : (v : Value K D) (t : Tree) (k : List ℕ) (e : AccessError) (r : Result (Option (Value K D)) AccessError)
      → value_tree text literal v ≡ t
      → r ≡ ok_or (option_map (λ es. value_at text es k) (members_inside v)) e
      → IfOk r (λ old. option_map (value_tree text literal) old ≡ child t (key k))
  removed v t k e r is h = removed_from (members_inside v) t k e r (member_of_tree v t k is) h

  last_found : (vs : List (Value K D)) → option_map (value_tree text literal) (last_of vs) ≡ last_item (items_view text literal vs)
  last_found [] = refl
  last_found (v ∷ []) = refl
  last_found (v ∷ w ∷ vs) = simp unary_clauses (simp unary_clauses at (last_found (w ∷ vs)))

  popped_from : (m : Option (List (Value K D))) (e : AccessError) (r : Result (Option (Value K D)) AccessError)
      → r ≡ ok_or (option_map last_of m) e
      → IfOk r (λ old. Some (option_map (value_tree text literal) old) ≡ option_map last_item (option_map (items_view text literal) m))
  popped_from None e r h = rw h tt
  popped_from (Some vs) e r h = rw h (ap Some (last_found vs))

  -- the item that `pop` returns
  pub popped : (v : Value K D) (t : Tree) (e : AccessError) (r : Result (Option (Value K D)) AccessError)
      → value_tree text literal v ≡ t
      → r ≡ ok_or (option_map last_of (items_inside v)) e
      → IfOk r (λ old. Some (option_map (value_tree text literal) old) ≡ option_map last_item (items_in t))
  popped v t e r is h = rw (← is, items_of_tree v) (popped_from (items_inside v) e r h)
