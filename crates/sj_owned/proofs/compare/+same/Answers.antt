use Rattle.std.proofs.Common.{◌≡◌, Bool, length, List, [], ◌∷◌, ◌++◌, sym, ap, ◌∙◌, append_assoc, arith, rules}
use Rattle.sj_object.specs.Iterators.{entries_left}
use Rattle.sj_object.specs.declared.entry.Entry.{Entry}
use Rattle.sj_base.specs.Tree.{Tree, list}
use Rattle.sj_base.proofs.Ends.{both_end}
use Rattle.sj_owned.specs.inside.Comparing.{Compares}
use Rattle.sj_owned.specs.Views.{value_tree, items_view}
use Rattle.sj_owned.specs.declared.value.Value.{Value}
use Rattle.sj_owned.proofs.Comparing.{all_left, lists_of_other_lengths, lists_differ, lists_equal, items_passed, objects_of_other_lengths, objects_of_other_keys, objects_differ, objects_equal, members_passed}
use Rattle.sj_owned.proofs.Layers.{tree-Array, tree-Object}
use Rattle.sj_owned.proofs.Pieces.{shorter}
use Rattle.sj_owned.proofs.compare.+same.Goals as goal

same_trees : (r : Bool) (s t u v : Tree) → s ≡ u → t ≡ v → Compares r u v → Compares r s t
same_trees r s t u v left right h = rw (left, right) h

pub same_items-returns-then-items-others : goal.same_items-returns-then-items-others
same_items-returns-then-items-others g t c =
    lists_of_other_lengths (value_tree g.K.ObjectKey.text g.D.Literal.literal) (value_tree g.L.ObjectKey.text g.E.Literal.literal) c.args.items.now c.args.others.now c.if-items-others.true

pub same_items-loop-item-init : goal.same_items-loop-item-init
same_items-loop-item-init g t c = search rules

pub same_items-returns-then-not-same_values : goal.same_items-returns-then-not-same_values
same_items-returns-then-not-same_values g t c =
    let steps = c.in-Some.ensures.steps in
    lists_differ (value_tree g.K.ObjectKey.text g.D.Literal.literal) (value_tree g.L.ObjectKey.text g.E.Literal.literal) c.args.items.now c.args.others.now _ _ _ _ c.in-Some.item.now c.in-Some.other.now
    c.loop-item.invariant.1 steps.0 steps.1 c.if-not-same_values.ensures

pub same_items-loop-item-preserved : goal.same_items-loop-item-preserved
same_items-loop-item-preserved g t c =
    let steps = c.in-Some.ensures.steps in (
      omega (arith, ap length steps.0, ap length steps.1, c.loop-item.invariant.0),
      items_passed (value_tree g.K.ObjectKey.text g.D.Literal.literal) (value_tree g.L.ObjectKey.text g.E.Literal.literal) c.args.items.now c.args.others.now _ _ _ _ c.in-Some.item.now c.in-Some.other.now
          c.loop-item.invariant.1 steps.0 steps.1 c.if-not-same_values.ensures,
    )

pub same_items-returns : goal.same_items-returns
same_items-returns g t c =
    let ends = both_end _ _ c.loop-item.invariant.0 c.in-None.ensures.steps in
    lists_equal (value_tree g.K.ObjectKey.text g.D.Literal.literal) (value_tree g.L.ObjectKey.text g.E.Literal.literal) c.args.items.now c.args.others.now _ _ c.loop-item.invariant.1 ends.0 ends.1

pub same_members-returns-then-len : goal.same_members-returns-then-len
same_members-returns-then-len g t c =
    objects_of_other_lengths g.K.ObjectKey.text g.L.ObjectKey.text (value_tree g.K.ObjectKey.text g.D.Literal.literal) (value_tree g.L.ObjectKey.text g.E.Literal.literal) c.args.members.now c.args.others.now
    c.len.ensures.distinct c.len-2.ensures.distinct
    (λ e. c.if-len.true (c.len.ensures.len ∙ e ∙ sym c.len-2.ensures.len))

pub same_members-loop-key-init : goal.same_members-loop-key-init
same_members-loop-key-init g t c =
    let whole : entries_left c.into_iter-key-iterator.result ≡ c.args.members.now = search rules in
    let nothing : List (Entry g.row.K.Denot (Value g.row.K.Denot g.row.D.Denot)) = [] in (
      tt,
      tt,
      (nothing, sym whole),
      all_left g.K.ObjectKey.text g.L.ObjectKey.text (value_tree g.K.ObjectKey.text g.D.Literal.literal) (value_tree g.L.ObjectKey.text g.E.Literal.literal) c.args.members.now c.args.others.now (entries_left c.into_iter-key-iterator.result) whole,
    )

pub same_members-returns-in_default : goal.same_members-returns-in_default
same_members-returns-in_default g t c =
    let at = entries_left c.loop-key.key-iterator in
    let more = entries_left c.next.new.self in
    let e : Entry g.row.K.Denot (Value g.row.K.Denot g.row.D.Denot) = record { key = c.in-Some.key.now; value = c.in-Some.value.now } in
    let first : at ≡ e ∷ more = c.in-Some.ensures.steps in
    let none = sym (rw c.as_text.ensures at c.in_default.ensures) in
    objects_of_other_keys g.K.ObjectKey.text g.L.ObjectKey.text (value_tree g.K.ObjectKey.text g.D.Literal.literal) (value_tree g.L.ObjectKey.text g.E.Literal.literal) c.args.members.now c.args.others.now
    c.len.ensures.distinct c.len-2.ensures.distinct at more e c.loop-key.invariant.3 first none

pub same_members-returns-then-not-same_values : goal.same_members-returns-then-not-same_values
same_members-returns-then-not-same_values g t c =
    let at = entries_left c.loop-key.key-iterator in
    let more = entries_left c.next.new.self in
    let e : Entry g.row.K.Denot (Value g.row.K.Denot g.row.D.Denot) = record { key = c.in-Some.key.now; value = c.in-Some.value.now } in
    let first : at ≡ e ∷ more = c.in-Some.ensures.steps in
    let found = sym (rw c.as_text.ensures at c.in-Some-get.ensures) in
    objects_differ g.K.ObjectKey.text g.L.ObjectKey.text (value_tree g.K.ObjectKey.text g.D.Literal.literal) (value_tree g.L.ObjectKey.text g.E.Literal.literal) c.args.members.now c.args.others.now
    c.len.ensures.distinct c.len-2.ensures.distinct at more e c.in-Some-get.other.now c.loop-key.invariant.3 first found c.if-not-same_values.ensures

pub same_members-loop-key-preserved : goal.same_members-loop-key-preserved
same_members-loop-key-preserved g t c =
    let at = entries_left c.loop-key.key-iterator in
    let more = entries_left c.next.new.self in
    let e : Entry g.row.K.Denot (Value g.row.K.Denot g.row.D.Denot) = record { key = c.in-Some.key.now; value = c.in-Some.value.now } in
    let first : at ≡ e ∷ more = c.in-Some.ensures.steps in
    let found = sym (rw c.as_text.ensures at c.in-Some-get.ensures) in
    let done = c.loop-key.invariant.2.0 in (
      tt,
      tt,
      (done ++ e ∷ [], c.loop-key.invariant.2.1 ∙ ap (λ l. done ++ l) first ∙ sym (append_assoc done (e ∷ []) more)),
      members_passed g.K.ObjectKey.text g.L.ObjectKey.text (value_tree g.K.ObjectKey.text g.D.Literal.literal) (value_tree g.L.ObjectKey.text g.E.Literal.literal) c.args.members.now c.args.others.now at more e c.in-Some-get.other.now c.loop-key.invariant.3 first found c.if-not-same_values.ensures,
    )

pub same_members-returns : goal.same_members-returns
same_members-returns g t c =
    let at = entries_left c.loop-key.key-iterator in
    let none : at ≡ [] = c.in-None.ensures.steps.0 in
    objects_equal g.K.ObjectKey.text g.L.ObjectKey.text (value_tree g.K.ObjectKey.text g.D.Literal.literal) (value_tree g.L.ObjectKey.text g.E.Literal.literal) c.args.members.now c.args.others.now
    c.len.ensures.distinct c.len-2.ensures.distinct at c.loop-key.invariant.3 none (sym c.len.ensures.len ∙ c.if-len.false ∙ c.len-2.ensures.len)

pub same_members-loop-key-smaller : goal.same_members-loop-key-smaller
same_members-loop-key-smaller g t c = shorter _ _ _ c.in-Some.ensures.steps

pub same_values-returns-in-Array-b : goal.same_values-returns-in-Array-b
same_values-returns-in-Array-b g t c =
    same_trees _ _ _ _ _ (ap (value_tree g.K.ObjectKey.text g.D.Literal.literal) c.in-Array.is ∙ tree-Array g.K.ObjectKey.text g.D.Literal.literal c.in-Array.items ∙ ap (λ vs. list (items_view g.K.ObjectKey.text g.D.Literal.literal vs)) (sym c.deref.ensures.value))
    (ap (value_tree g.L.ObjectKey.text g.E.Literal.literal) c.in-Array-b.is ∙ tree-Array g.L.ObjectKey.text g.E.Literal.literal c.in-Array-b.others ∙ ap (λ vs. list (items_view g.L.ObjectKey.text g.E.Literal.literal vs)) (sym c.deref-in-Array-b.ensures.value))
    c.same_items.ensures

pub same_values-returns-in-Object-b : goal.same_values-returns-in-Object-b
same_values-returns-in-Object-b g t c =
    same_trees _ _ _ _ _ (ap (value_tree g.K.ObjectKey.text g.D.Literal.literal) c.in-Object.is ∙ tree-Object g.K.ObjectKey.text g.D.Literal.literal c.in-Object.members)
    (ap (value_tree g.L.ObjectKey.text g.E.Literal.literal) c.in-Object-b.is ∙ tree-Object g.L.ObjectKey.text g.E.Literal.literal c.in-Object-b.others)
    c.same_members.ensures
