use Rattle.std.specs.Prelude.{IsUtf8}
use Rattle.std.proofs.Common.{◌≡◌, Result, Ok, Err, OnOk, IfOk, ℕ, ◌+◌, suc, length, [], ◌∷◌, ◌++◌, drop, max, refl, sym, ap, ap₂, subst, ◌∙◌, append_assoc, add-one, arith, rules}
use Rattle.std.proofs.lemmas.List.{drop_all}
use Rattle.std.proofs.lemmas.Result.{IfOk-from_err}
use borrow.Author.Count.{falls}
use Rattle.sj_base.specs.Tree.{IsValidTree, depth, item, list, object, items_depth, members_depth, AreValidItems, AreValidMembers}
use Rattle.sj_base.specs.Keep.{IsKept}
use Rattle.sj_object.specs.Iterators.{entries_left}
use Rattle.sj_object.specs.declared.entry.Entry.{Entry}
use Rattle.sj_owned.specs.Views.{value_tree, items_view, members_view}
use Rattle.sj_owned.specs.declared.value.Value.{Value}
use Rattle.sj_owned.specs.inside.Depths.{KeepItems}
use Rattle.sj_owned.proofs.Layers.{tree-Array, tree-Object}
use Rattle.sj_owned.proofs.Depths.{KeepEach, one_member_more, distinct_kept}
use Rattle.sj_owned.proofs.Pieces.{cut_at, shorter}
use Rattle.sj_owned.proofs.depth.+count_levels.Goals as goal

none_deeper : (n : ℕ) → max 0 n ≡ n
none_deeper n = omega arith

deepest_is : (n m : ℕ) → max n 0 ≡ m → n ≡ m
deepest_is n m h = omega arith

on_ok : {T E : Type 0} {P : Type 0} (r : Result T E) → P → OnOk r P
on_ok (Ok x) p = p
on_ok (Err e) p = tt

pub count_item_levels-loop-item-preserved : goal.count_item_levels-loop-item-preserved
count_item_levels-loop-item-preserved g t c =
    let text = g.K.ObjectKey.text in
    let literal = g.D.Literal.literal in
    let at = c.loop-item in
    let v : Value g.row.K.Denot g.row.D.Denot = c.item-item.result in
    let items = c.deref-item-items.result.now in
    let left = drop (at.item-index + 1) items in
    let first = cut_at items at.item-index v c.loop-item-test.true c.item-item.is in
    let deeper : max at.deepest (max (depth (value_tree text literal v)) (items_depth (items_view text literal left))) ≡ items_depth (items_view text literal items) = ap (λ vs. max at.deepest (items_depth (items_view text literal vs))) (sym first) ∙ at.invariant.0 in
    let now : max c.max-deepest.result (items_depth (items_view text literal left)) ≡ items_depth (items_view text literal items) = search rules in
    let each : KeepItems text literal left → KeepItems text literal items = λ rest. at.invariant.1 (rw first (ap₂ item c.in_ok-count_levels.ensures.kept rest)) in
    let valid : AreValidItems (items_view text literal left) → AreValidItems (items_view text literal items) = λ rest. at.invariant.2 (rw first (c.in_ok-count_levels.ensures.valid, rest)) in
    (now, each, valid)

pub count_member_levels-loop-key-init : goal.count_member_levels-loop-key-init
count_member_levels-loop-key-init g t c =
    let text = g.K.ObjectKey.text in
    let literal = g.D.Literal.literal in
    let all : entries_left c.into_iter-key-iterator.result ≡ c.args.members.now = c.into_iter-key-iterator.ensures.into_iter_gives in
    let same : members_depth (members_view text literal (entries_left c.into_iter-key-iterator.result)) ≡ members_depth (members_view text literal c.args.members.now) = ap (λ es. members_depth (members_view text literal es)) all in
    (tt, tt, [], sym all, omega (arith, same), λ each. subst (λ es. KeepEach text literal es) all each, λ valid. subst (λ es. AreValidMembers (members_view text literal es)) all valid)

pub count_member_levels-loop-key-preserved : goal.count_member_levels-loop-key-preserved
count_member_levels-loop-key-preserved g t c =
    let text = g.K.ObjectKey.text in
    let literal = g.D.Literal.literal in
    let at = c.loop-key in
    let done = at.invariant.2 in
    let e : Entry g.row.K.Denot (Value g.row.K.Denot g.row.D.Denot) = record { key = c.in-Some.key.now; value = c.in-Some.member.now } in
    let left = entries_left c.next.new.self in
    let first : entries_left at.key-iterator ≡ e ∷ left = c.in-Some.ensures.steps in
    let all : c.args.members.now ≡ done ++ e ∷ left = at.invariant.3 ∙ ap (λ es. done ++ es) first in
    let deeper : max at.deepest (max (depth (value_tree text literal c.in-Some.member.now)) (members_depth (members_view text literal left))) ≡ members_depth (members_view text literal c.args.members.now) = ap (λ es. max at.deepest (members_depth (members_view text literal es))) (sym first) ∙ at.invariant.4 in
    let now : max c.max-deepest.result (members_depth (members_view text literal left)) ≡ members_depth (members_view text literal c.args.members.now) = search rules in
    let each : KeepEach text literal left → KeepEach text literal c.args.members.now = λ rest. at.invariant.5 (rw first (one_member_more text literal e left c.in_ok-count_levels.ensures.kept rest)) in
    let valid : AreValidMembers (members_view text literal left) → AreValidMembers (members_view text literal c.args.members.now) = λ rest. at.invariant.6 (rw first (subst IsUtf8 c.as_text-text.ensures c.as_text-text.utf8, c.in_ok-count_levels.ensures.valid, rest)) in
    (tt, tt, done ++ e ∷ [], all ∙ sym (append_assoc done (e ∷ []) left), now, each, valid)

pub count_member_levels-returns-clause-kept : goal.count_member_levels-returns-clause-kept
count_member_levels-returns-clause-kept g t c = distinct_kept g.K.ObjectKey.text g.D.Literal.literal c.args.members.now c.len.ensures.distinct (c.loop-key.invariant.5 (rw c.in-None.ensures.steps.0 refl))

pub count_member_levels-returns-clause-valid : goal.count_member_levels-returns-clause-valid
count_member_levels-returns-clause-valid g t c = c.loop-key.invariant.6 (rw c.in-None.ensures.steps.0 tt)

pub count_item_levels-returns-in_err-count_levels :
    goal.count_item_levels-returns-in_err-count_levels
count_item_levels-returns-in_err-count_levels g t c =
    record {
      levels = IfOk-from_err c.from_residual.result _ c.from_residual.ensures.0;
      kept = IfOk-from_err c.from_residual.result _ c.from_residual.ensures.0;
      valid = IfOk-from_err c.from_residual.result _ c.from_residual.ensures.0;
    }

pub count_levels-returns-in_err-count_item_levels-in-Array :
    goal.count_levels-returns-in_err-count_item_levels-in-Array
count_levels-returns-in_err-count_item_levels-in-Array g t c =
    record {
      levels = IfOk-from_err c.from_residual.result _ c.from_residual.ensures.0;
      kept = IfOk-from_err c.from_residual.result _ c.from_residual.ensures.0;
      valid = IfOk-from_err c.from_residual.result _ c.from_residual.ensures.0;
    }

pub count_levels-returns-in_err-count_member_levels-in-Object :
    goal.count_levels-returns-in_err-count_member_levels-in-Object
count_levels-returns-in_err-count_member_levels-in-Object g t c =
    record {
      levels = IfOk-from_err c.from_residual-in_err-count_member_levels-in-Object.result _ c.from_residual-in_err-count_member_levels-in-Object.ensures.0;
      kept = IfOk-from_err c.from_residual-in_err-count_member_levels-in-Object.result _ c.from_residual-in_err-count_member_levels-in-Object.ensures.0;
      valid = IfOk-from_err c.from_residual-in_err-count_member_levels-in-Object.result _ c.from_residual-in_err-count_member_levels-in-Object.ensures.0;
    }

pub count_member_levels-returns-in_err-count_levels :
    goal.count_member_levels-returns-in_err-count_levels
count_member_levels-returns-in_err-count_levels g t c =
    record {
      levels = IfOk-from_err c.from_residual.result _ c.from_residual.ensures.0;
      kept = IfOk-from_err c.from_residual.result _ c.from_residual.ensures.0;
      valid = IfOk-from_err c.from_residual.result _ c.from_residual.ensures.0;
    }

pub count_item_levels-loop-item-init : goal.count_item_levels-loop-item-init
count_item_levels-loop-item-init g t c = (none_deeper _, λ each. each, λ valid. valid)

pub count_item_levels-loop-item-smaller : goal.count_item_levels-loop-item-smaller
count_item_levels-loop-item-smaller g t c = falls (length c.deref-item-items.result.now) c.loop-item.item-index c.loop-item-test.true

pub count_member_levels-loop-key-smaller : goal.count_member_levels-loop-key-smaller
count_member_levels-loop-key-smaller g t c = shorter _ _ _ c.in-Some.ensures.steps

pub count_item_levels-returns : goal.count_item_levels-returns
count_item_levels-returns g t c =
    let text = g.K.ObjectKey.text in
    let literal = g.D.Literal.literal in
    let at = c.loop-item.invariant in
    let none = drop_all c.loop-item.item-index c.deref-item-items.result.now c.loop-item-test.false in
    let all = c.deref-item-items.ensures.value in
    record {
      levels = deepest_is _ _ (rw none at at.0) ∙ ap (λ vs. items_depth (items_view text literal vs)) all;
      kept = subst (λ vs. KeepItems text literal vs) all (at.1 (rw none refl));
      valid = subst (λ vs. AreValidItems (items_view text literal vs)) all (at.2 (rw none tt));
    }

pub count_member_levels-returns-clause-levels : goal.count_member_levels-returns-clause-levels
count_member_levels-returns-clause-levels g t c = deepest_is _ _ (rw c.in-None.ensures.steps.0 at c.loop-key.invariant.4)

pub count_levels-returns-in_ok-count_item_levels-in-Array :
    goal.count_levels-returns-in_ok-count_item_levels-in-Array
count_levels-returns-in_ok-count_item_levels-in-Array g t c =
    let text = g.K.ObjectKey.text in
    let literal = g.D.Literal.literal in
    let tree = ap (value_tree text literal) c.in-Array.is ∙ tree-Array text literal c.in-Array.items in
    let counted = c.in_ok-count_item_levels-in-Array.ensures in
    let more = c.one_more in
    record {
      levels = subst (λ n. IfOk more.result (λ m. m ≡ n)) (add-one _ ∙ ap suc counted.levels ∙ sym (ap depth tree)) more.ensures;
      kept = on_ok more.result (subst IsKept (sym tree) (ap list counted.kept));
      valid = on_ok more.result (subst IsValidTree (sym tree) counted.valid);
    }

pub count_levels-returns-in_ok-count_member_levels-in-Object :
    goal.count_levels-returns-in_ok-count_member_levels-in-Object
count_levels-returns-in_ok-count_member_levels-in-Object g t c =
    let text = g.K.ObjectKey.text in
    let literal = g.D.Literal.literal in
    let tree = ap (value_tree text literal) c.in-Object.is ∙ tree-Object text literal c.in-Object.members in
    let counted = c.in_ok-count_member_levels-in-Object.ensures in
    let more = c.one_more-in-Object in
    record {
      levels = subst (λ n. IfOk more.result (λ m. m ≡ n)) (add-one _ ∙ ap suc counted.levels ∙ sym (ap depth tree)) more.ensures;
      kept = on_ok more.result (subst IsKept (sym tree) (ap object counted.kept));
      valid = on_ok more.result (subst IsValidTree (sym tree) counted.valid);
    }
