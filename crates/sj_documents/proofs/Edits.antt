-- The part of a document, and the document after an edit of it.
use Rattle.std.proofs.Common.{◌≡◌, ℕ, suc, List, [], ◌∷◌, length, Option, Some, None, Ok, refl, sym, ap, ◌∙◌, rules, option_map}
use Rattle.std.specs.Prelude.{ok_or, true, codes}
use Rattle.sj_base.specs.Tree.{Tree, list, object}
use Rattle.sj_base.specs.Path.{member_at}
use Rattle.sj_base.specs.Containers.{items_len, members_len, items_in, members_in}
use Rattle.sj_base.specs.Edit.{put_member, drop_member, last_item, pop_item}
use Rattle.sj_object.specs.declared.entry.Entry.{Entry}
use Rattle.sj_owned.specs.Views.{value_tree, items_view, members_view, items_inside, members_inside}
use Rattle.sj_owned.specs.declared.value.Value.{Value, Static, Decimal, String, Object, Array', Object', the_lemmas}
use Rattle.sj_owned.proofs.Layers.{tree-Object}
use Rattle.sj_scripts.specs.Command.{◌>>=◌}
use native.Mathlib.Numerals.{unary_clauses}
use Rattle.std.proofs.lemmas.Option.{none-some, same_Some}
use Rattle.sj_base.specs.declared.fault.AccessError.TheVariants as AccessError
use Rattle.sj_object.specs.Pairs.{value_at}
use Rattle.sj_owned.specs.Edits.{without_member, without_last, last_of}
use Rattle.sj_build.proofs.Members.{value_member}
use Rattle.sj_documents.specs.Step.{if_fits, reply_of, insertion, removal, popping}
use Rattle.sj_documents.proofs.Changes.{same_ok}

module _ {K D : Type 0} (text : K → List ℕ) (literal : D → List ℕ) where
  -- the containers inside a document are those of its tree
  pub members-inside : (v : Value K D) → members_in (value_tree text literal v) ≡ option_map (members_view text literal) (members_inside v)
  members-inside (Static s) = search (rules, the_lemmas)
  members-inside (Decimal d) = search (rules, the_lemmas)
  members-inside (String s) = search (rules, the_lemmas)
  members-inside (Array' shape all) = search (rules, the_lemmas)
  members-inside (Object' shape all) = search (rules, the_lemmas)

  pub items-inside : (v : Value K D) → items_in (value_tree text literal v) ≡ option_map (items_view text literal) (items_inside v)
  items-inside (Static s) = search (rules, the_lemmas)
  items-inside (Decimal d) = search (rules, the_lemmas)
  items-inside (String s) = search (rules, the_lemmas)
  items-inside (Array' shape all) = search (rules, the_lemmas)
  items-inside (Object' shape all) = search (rules, the_lemmas)

  pub count_items : (vs : List (Value K D)) → items_len (items_view text literal vs) ≡ length vs
  count_items [] = refl
  count_items (v ∷ vs) = ap suc (count_items vs)

  pub count_members : (es : List (Entry K (Value K D))) → members_len (members_view text literal es) ≡ length es
  count_members [] = refl
  count_members (e ∷ es) = ap suc (count_members es)

  -- ---- edits of a part

  abbrev tree : Value K D → Tree
  tree = value_tree text literal

  last_of_items : (vs : List (Value K D)) → option_map tree (last_of vs) ≡ last_item (items_view text literal vs)
  last_of_items [] = refl
  last_of_items (v ∷ []) = refl
  last_of_items (v ∷ w ∷ vs) = simp unary_clauses (simp unary_clauses at (last_of_items (w ∷ vs)))

  -- an insertion into the members of an object
  module _ (v : Value K D) (es : List (Entry K (Value K D))) (is : members_inside v ≡ Some es) (k : List ℕ) (u : Tree) where
    object_found : members_in (tree v) ≡ Some (members_view text literal es)
    object_found = members-inside v ∙ ap (option_map (members_view text literal)) is

    pub inserted : (fs : List (Entry K (Value K D))) (old : Option (Value K D)) → members_view text literal fs ≡ put_member (members_view text literal es) k u → old ≡ value_at text es k
        → insertion true k u (tree v) ≡ Ok (reply_of (option_map tree old), tree (Object fs))
    inserted fs old puts was =
        ap (λ o. ok_or o (codes "NotAnObject") >>= λ ms. if_fits true (reply_of (member_at ms k), object (put_member ms k u))) object_found
        ∙ ap (λ r. Ok (reply_of r, object (put_member (members_view text literal es) k u))) (sym (value_member text tree es k) ∙ ap (option_map tree) (sym was))
        ∙ ap (λ t. Ok (reply_of (option_map tree old), t)) (ap object (sym puts) ∙ sym (tree-Object text literal fs))

  module _ (v w : Value K D) (old : Option (Value K D)) where
    module _ (k : List ℕ) where
      removed_at : (o : Option (List (Entry K (Value K D)))) → members_inside v ≡ o → Some (tree w) ≡ without_member (tree v) k
          → Ok old ≡ ok_or (option_map (λ es. value_at text es k) (members_inside v)) AccessError.NotAnObject → removal k (tree v) ≡ Ok (reply_of (option_map tree old), tree w)
      removed_at None is now was = absurd (none-some _ (sym (now ∙ ap (option_map (λ ms. object (drop_member ms k))) (members-inside v ∙ ap (option_map (members_view text literal)) is))))
      removed_at (Some es) is now was =
          let found : members_in (tree v) ≡ Some (members_view text literal es) = members-inside v ∙ ap (option_map (members_view text literal)) is in
          let dropped : object (drop_member (members_view text literal es) k) ≡ tree w = same_Some _ _ (sym (now ∙ ap (option_map (λ ms. object (drop_member ms k))) found)) in
          let value : old ≡ value_at text es k = same_ok _ _ _ _ refl refl (was ∙ ap (λ o. ok_or (option_map (λ es. value_at text es k) o) AccessError.NotAnObject) is) in
          let reply : member_at (members_view text literal es) k ≡ option_map tree old = sym (value_member text tree es k) ∙ ap (option_map tree) (sym value) in
          ap (λ o. ok_or o (codes "NotAnObject") >>= λ ms. Ok (reply_of (member_at ms k), object (drop_member ms k))) found
          ∙ ap (λ r. Ok (reply_of r, object (drop_member (members_view text literal es) k))) reply
          ∙ ap (λ t. Ok (reply_of (option_map tree old), t)) dropped

      pub removed : Some (tree w) ≡ without_member (tree v) k → Ok old ≡ ok_or (option_map (λ es. value_at text es k) (members_inside v)) AccessError.NotAnObject
          → removal k (tree v) ≡ Ok (reply_of (option_map tree old), tree w)
      removed = removed_at (members_inside v) refl

    popped_at : (o : Option (List (Value K D))) → items_inside v ≡ o → Some (tree w) ≡ without_last (tree v)
        → Ok old ≡ ok_or (option_map last_of (items_inside v)) AccessError.NotAnArray → popping (tree v) ≡ Ok (reply_of (option_map tree old), tree w)
    popped_at None is now was = absurd (none-some _ (sym (now ∙ ap (option_map (λ ts. list (pop_item ts))) (items-inside v ∙ ap (option_map (items_view text literal)) is))))
    popped_at (Some vs) is now was =
        let found : items_in (tree v) ≡ Some (items_view text literal vs) = items-inside v ∙ ap (option_map (items_view text literal)) is in
        let shorter : list (pop_item (items_view text literal vs)) ≡ tree w = same_Some _ _ (sym (now ∙ ap (option_map (λ ts. list (pop_item ts))) found)) in
        let value : old ≡ last_of vs = same_ok _ _ _ _ refl refl (was ∙ ap (λ o. ok_or (option_map last_of o) AccessError.NotAnArray) is) in
        let reply : last_item (items_view text literal vs) ≡ option_map tree old = sym (last_of_items vs) ∙ ap (option_map tree) (sym value) in
        ap (λ o. ok_or o (codes "NotAnArray") >>= λ ts. Ok (reply_of (last_item ts), list (pop_item ts))) found
        ∙ ap (λ r. Ok (reply_of r, list (pop_item (items_view text literal vs)))) reply
        ∙ ap (λ t. Ok (reply_of (option_map tree old), t)) shorter

    pub popped : Some (tree w) ≡ without_last (tree v) → Ok old ≡ ok_or (option_map last_of (items_inside v)) AccessError.NotAnArray → popping (tree v) ≡ Ok (reply_of (option_map tree old), tree w)
    popped = popped_at (items_inside v) refl
