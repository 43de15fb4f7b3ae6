use Rattle.std.proofs.Common.{ℕ, suc, ◌*◌, ◌≤◌, ◌<◌, List, [], Result, Ok, Err, ◌++◌, ◌+◌, drop, ◌≡◌, length, ap, subst, ◌∙◌, sym, arith, rules}
use Rattle.sj_base.specs.Layout.{rest_text, item_texts, member_texts, laid_out, colon, filled, before_next}
use Rattle.sj_base.specs.Text.{quoted}
use Rattle.sj_base.specs.declared.layout.Layout.{Layout}
use Rattle.sj_base.specs.Tree.{list, object, Members}
use Rattle.sj_base.specs.declared.layout.Container.{Container}
use Rattle.std.proofs.lemmas.List.{drop_all}
use Rattle.std.proofs.lemmas.Result.{err_from_is_err_and}
use borrow.Author.Count.{falls}
use Rattle.sj_base.specs.Output.{Prints}
use Rattle.sj_owned.specs.declared.value.Value.{the_lemmas}
use Rattle.sj_base.proofs.Towards.{Toward, fault, list_fault, list_opened, object_fault, object_opened, next_item, next_member, value_fault, value_printed}
use Rattle.sj_tape.proofs.Printing.{fewer_items, fewer_members, nested_item, nested_member}
use Rattle.sj_owned.proofs.Layers.{tree-Array, tree-Object, items_cut, members_cut}
use Rattle.sj_owned.proofs.Pieces.{shorter}
use Rattle.sj_object.specs.Iterators.{entries_left}
use Rattle.sj_tape.specs.Listing.{listing, members_listing}
use Rattle.sj_owned.specs.Views.{value_tree, items_view, members_view}
use Rattle.sj_owned.proofs.encode.+print.Goals as goal

item_falls : (a b n t : ℕ) → a ≤ b → b ≤ n → 2 * suc n ≡ t → 2 * a + 1 < t
item_falls a b n t in_rest in_all is = omega arith

member_falls : (a b n t : ℕ) → a < b → b ≤ n → 2 * suc n ≡ t → 2 * a + 1 < t
member_falls a b n t in_rest in_all is = omega arith

same_falls : (n m t : ℕ) → n ≡ m → 2 * m + 1 ≡ t → 2 * n < t
same_falls n m t same is = omega arith

printed_to : {S X E : Type 0} (A B : S → S → List ℕ → Type 0) (r : Result X E) (start now end : S) (left whole : List ℕ) → Toward A B start now left whole → Prints A B r now end left → Prints A B r start end whole
printed_to A B (Ok x) start now end left whole h a = h.appended end a
printed_to A B (Err e) start now end left whole h b = h.begun end b

pub print_items-returns-in_err-list : goal.print_items-returns-in_err-list
print_items-returns-in_err-list g t c =
    let view = items_view g.K.ObjectKey.text g.D.Literal.literal in
    rw (err_from_is_err_and c.from_residual-in_err-list.result c.from_residual-in_err-list.ensures.1).1 (list_fault g.met.O.Output.laws c.args.layout (view c.args.items.now) c.in_err-list.ensures.printed)

pub print_items-loop-item-init : goal.print_items-loop-item-init
print_items-loop-item-init g t c =
    let view = items_view g.K.ObjectKey.text g.D.Literal.literal in (
      omega arith,
      ap (λ (x : Container). x.inside) c.in_ok-list.ensures.container,
      list_opened g.met.O.Output.laws c.args.layout (view c.args.items.now) c.in_ok-list.list c.in_ok-list.ensures.container c.in_ok-list.ensures.printed,
    )

pub print_members-returns-in_err-object : goal.print_members-returns-in_err-object
print_members-returns-in_err-object g t c =
    let view = members_view g.K.ObjectKey.text g.D.Literal.literal in
    rw (err_from_is_err_and c.from_residual-in_err-object.result c.from_residual-in_err-object.ensures.1).1 (object_fault g.met.O.Output.laws c.args.layout (view c.args.members.now) c.in_err-object.ensures.printed)

pub print_members-loop-key-init : goal.print_members-loop-key-init
print_members-loop-key-init g t c =
    let view = members_view g.K.ObjectKey.text g.D.Literal.literal in
    let whole : entries_left c.into_iter-key-iterator.result ≡ c.args.members.now = search rules in
    let opened = object_opened g.met.O.Output.laws c.args.layout (view c.args.members.now) c.in_ok-object.object c.in_ok-object.ensures.container c.in_ok-object.ensures.printed in
    let same = ap view whole in (
      tt,
      tt,
      omega (arith, ap (λ ms. length (members_listing ms)) same),
      ap (λ (x : Container). x.inside) c.in_ok-object.ensures.container,
      subst (λ (ms : Members). Toward g.O.Output.appends g.O.Output.begins c.args.out.now c.open_object.new.out (rest_text c.in_ok-object.object (member_texts c.in_ok-object.object.inside ms)) (laid_out c.args.layout (object (view c.args.members.now)))) (sym same) opened,
    )

pub print_items-returns-in_err-print_value : goal.print_items-returns-in_err-print_value
print_items-returns-in_err-print_value g t c =
    let text = g.K.ObjectKey.text in
    let literal = g.D.Literal.literal in
    let view = items_view text literal in
    let i = c.loop-item.item-index in
    let all = c.args.items.now in
    let list = c.loop-item.list in
    let value = value_tree text literal c.item-item.result in
    let cut = items_cut text literal all i c.item-item.result (omega (arith, c.loop-item-test.true, c.loop-item.auto.item-index-end)) c.item-item.is in
    let left = next_item list (view (drop i all)) value (view (drop (i + 1) all)) c.loop-item.invariant.2 cut in
    let inside = c.inside.ensures ∙ ap (λ (x : Container). x.inside) c.in_ok-next.ensures.container in
    let begun = subst (λ (y : Layout). g.O.Output.begins c.next.new.out c.print_value.new.out (laid_out y value)) inside c.in_err-print_value.ensures in
    rw (err_from_is_err_and c.from_residual-in_err-print_value.result c.from_residual-in_err-print_value.ensures.1).1 (value_fault g.met.O.Output.laws (before_next list) (laid_out list.inside value) (rest_text (filled list) (item_texts list.inside (view (drop (i + 1) all)))) left c.in_ok-next.ensures.printed begun)

pub print_items-loop-item-preserved : goal.print_items-loop-item-preserved
print_items-loop-item-preserved g t c =
    let text = g.K.ObjectKey.text in
    let literal = g.D.Literal.literal in
    let view = items_view text literal in
    let i = c.loop-item.item-index in
    let all = c.args.items.now in
    let list = c.loop-item.list in
    let value = value_tree text literal c.item-item.result in
    let more = view (drop (i + 1) all) in
    let cut = items_cut text literal all i c.item-item.result (omega (arith, c.loop-item-test.true, c.loop-item.auto.item-index-end)) c.item-item.is in
    let left = next_item list (view (drop i all)) value more c.loop-item.invariant.2 cut in
    let fewer = fewer_items (view (drop i all)) value more cut in
    let inside = c.inside.ensures ∙ ap (λ (x : Container). x.inside) c.in_ok-next.ensures.container in
    let printed = subst (λ (y : Layout). g.O.Output.appends c.next.new.out c.print_value.new.out (laid_out y value)) inside c.in_ok-print_value.ensures in
    rw c.in_ok-next.ensures.container (
      omega (arith, fewer, c.loop-item.invariant.0),
      c.loop-item.invariant.1,
      value_printed g.met.O.Output.laws (before_next list) (laid_out list.inside value) (rest_text (filled list) (item_texts list.inside more)) left c.in_ok-next.ensures.printed printed,
    )

pub print_members-returns-in_err-key : goal.print_members-returns-in_err-key
print_members-returns-in_err-key g t c =
    let text = g.K.ObjectKey.text in
    let literal = g.D.Literal.literal in
    let view = members_view text literal in
    let object = c.loop-key.object in
    let key = c.as_text.result.now in
    let value = value_tree text literal c.in-Some.value.now in
    let more = view (entries_left c.next.new.self) in
    let cut = members_cut text literal (entries_left c.loop-key.key-iterator) (entries_left c.next.new.self) c.in-Some.key.now c.in-Some.value.now key c.in-Some.ensures.steps c.as_text.ensures in
    let left = next_member object (view (entries_left c.loop-key.key-iterator)) key value more c.loop-key.invariant.4 cut in
    rw (err_from_is_err_and c.from_residual-in_err-key.result c.from_residual-in_err-key.ensures.1).1 (fault g.met.O.Output.laws (before_next object ++ (quoted key ++ colon object.inside)) (laid_out object.inside value ++ rest_text (filled object) (member_texts object.inside more)) left c.in_err-key.ensures.printed)

pub print_members-returns-in_err-print_value : goal.print_members-returns-in_err-print_value
print_members-returns-in_err-print_value g t c =
    let text = g.K.ObjectKey.text in
    let literal = g.D.Literal.literal in
    let view = members_view text literal in
    let object = c.loop-key.object in
    let key = c.as_text.result.now in
    let value = value_tree text literal c.in-Some.value.now in
    let more = view (entries_left c.next.new.self) in
    let cut = members_cut text literal (entries_left c.loop-key.key-iterator) (entries_left c.next.new.self) c.in-Some.key.now c.in-Some.value.now key c.in-Some.ensures.steps c.as_text.ensures in
    let left = next_member object (view (entries_left c.loop-key.key-iterator)) key value more c.loop-key.invariant.4 cut in
    let inside = c.inside.ensures ∙ ap (λ (x : Container). x.inside) c.in_ok-key.ensures.container in
    let begun = subst (λ (y : Layout). g.O.Output.begins c.key.new.out c.print_value.new.out (laid_out y value)) inside c.in_err-print_value.ensures in
    rw (err_from_is_err_and c.from_residual-in_err-print_value.result c.from_residual-in_err-print_value.ensures.1).1 (value_fault g.met.O.Output.laws (before_next object ++ (quoted key ++ colon object.inside)) (laid_out object.inside value) (rest_text (filled object) (member_texts object.inside more)) left c.in_ok-key.ensures.printed begun)

pub print_members-loop-key-preserved : goal.print_members-loop-key-preserved
print_members-loop-key-preserved g t c =
    let text = g.K.ObjectKey.text in
    let literal = g.D.Literal.literal in
    let view = members_view text literal in
    let object = c.loop-key.object in
    let key = c.as_text.result.now in
    let value = value_tree text literal c.in-Some.value.now in
    let more = view (entries_left c.next.new.self) in
    let cut = members_cut text literal (entries_left c.loop-key.key-iterator) (entries_left c.next.new.self) c.in-Some.key.now c.in-Some.value.now key c.in-Some.ensures.steps c.as_text.ensures in
    let left = next_member object (view (entries_left c.loop-key.key-iterator)) key value more c.loop-key.invariant.4 cut in
    let fewer = fewer_members (view (entries_left c.loop-key.key-iterator)) key value more cut in
    let inside = c.inside.ensures ∙ ap (λ (x : Container). x.inside) c.in_ok-key.ensures.container in
    let printed = subst (λ (y : Layout). g.O.Output.appends c.key.new.out c.print_value.new.out (laid_out y value)) inside c.in_ok-print_value.ensures in
    rw c.in_ok-key.ensures.container (
      tt,
      tt,
      omega (arith, fewer, c.loop-key.invariant.2),
      c.loop-key.invariant.3,
      value_printed g.met.O.Output.laws (before_next object ++ (quoted key ++ colon object.inside)) (laid_out object.inside value) (rest_text (filled object) (member_texts object.inside more)) left c.in_ok-key.ensures.printed printed,
    )

pub print_items-returns-in_err-test_level : goal.print_items-returns-in_err-test_level
print_items-returns-in_err-test_level g t c =
    rw (err_from_is_err_and c.from_residual.result c.from_residual.ensures.1).1 (g.met.O.Refuses.refuses c.args.out.now _)

pub print_items-open_list-requires : goal.print_items-open_list-requires
print_items-open_list-requires g t c = c.in_ok-test_level.ensures

pub print_items-returns-in_err-next : goal.print_items-returns-in_err-next
print_items-returns-in_err-next g t c =
    let text = g.K.ObjectKey.text in
    let literal = g.D.Literal.literal in
    let view = items_view text literal in
    let i = c.loop-item.item-index in
    let all = c.args.items.now in
    let list = c.loop-item.list in
    let value = value_tree text literal c.item-item.result in
    let more = view (drop (i + 1) all) in
    let cut = items_cut text literal all i c.item-item.result (omega (arith, c.loop-item-test.true, c.loop-item.auto.item-index-end)) c.item-item.is in
    let left = next_item list (view (drop i all)) value more c.loop-item.invariant.2 cut in
    rw (err_from_is_err_and c.from_residual-in_err-next.result c.from_residual-in_err-next.ensures.1).1 (fault g.met.O.Output.laws (before_next list) (laid_out list.inside value ++ rest_text (filled list) (item_texts list.inside more)) left c.in_err-next.ensures.printed)

pub print_items-loop-item-smaller : goal.print_items-loop-item-smaller
print_items-loop-item-smaller g t c =
    falls (length c.args.items.now) c.loop-item.item-index (omega (arith, c.loop-item-test.true, c.loop-item.auto.item-index-end))

pub print_items-returns : goal.print_items-returns
print_items-returns g t c =
    let view = items_view g.K.ObjectKey.text g.D.Literal.literal in
    let i = c.loop-item.item-index in
    let all = c.args.items.now in
    let list = c.loop-item.list in
    let none : drop i all ≡ [] = drop_all i all (omega (arith, c.loop-item-test.false)) in
    printed_to g.O.Output.appends g.O.Output.begins c.close.result _ _ _ _ _ (rw none at c.loop-item.invariant.2) c.close.ensures

pub print_members-returns-in_err-test_level : goal.print_members-returns-in_err-test_level
print_members-returns-in_err-test_level g t c =
    rw (err_from_is_err_and c.from_residual.result c.from_residual.ensures.1).1 (g.met.O.Refuses.refuses c.args.out.now _)

pub print_members-open_object-requires : goal.print_members-open_object-requires
print_members-open_object-requires g t c = c.in_ok-test_level.ensures

pub print_members-loop-key-smaller : goal.print_members-loop-key-smaller
print_members-loop-key-smaller g t c = shorter _ _ _ c.in-Some.ensures.steps

pub print_members-returns : goal.print_members-returns
print_members-returns g t c =
    printed_to g.O.Output.appends g.O.Output.begins c.close.result _ _ _ _ _ (rw c.in-None.ensures.steps.0 at c.loop-key.invariant.4) c.close.ensures

pub print_value-returns-in-Static : goal.print_value-returns-in-Static
print_value-returns-in-Static g t c = search (rules, the_lemmas)

pub print_value-returns-in-Decimal : goal.print_value-returns-in-Decimal
print_value-returns-in-Decimal g t c = search (rules, the_lemmas)

pub print_value-returns-in-String : goal.print_value-returns-in-String
print_value-returns-in-String g t c = search (rules, the_lemmas)

pub print_value-returns-in-Array : goal.print_value-returns-in-Array
print_value-returns-in-Array g t c = search (rules, the_lemmas)

pub print_value-returns-in-Object : goal.print_value-returns-in-Object
print_value-returns-in-Object g t c = search (rules, the_lemmas)

pub print_items-print_value-requires : goal.print_items-print_value-requires
print_items-print_value-requires g t c κs within =
    let text = g.K.ObjectKey.text in
    let literal = g.D.Literal.literal in
    let view = items_view text literal in
    let i = c.loop-item.item-index in
    let all = c.args.items.now in
    let value = value_tree text literal c.item-item.result in
    let cut = items_cut text literal all i c.item-item.result (omega (arith, c.loop-item-test.true, c.loop-item.auto.item-index-end)) c.item-item.is in
    (item_falls _ _ _ _ (nested_item (view (drop i all)) value (view (drop (i + 1) all)) cut) c.loop-item.invariant.0 c.decreases, within)

pub print_members-print_value-requires : goal.print_members-print_value-requires
print_members-print_value-requires g t c κs within =
    let text = g.K.ObjectKey.text in
    let literal = g.D.Literal.literal in
    let view = members_view text literal in
    let key = c.as_text.result.now in
    let value = value_tree text literal c.in-Some.value.now in
    let more = view (entries_left c.next.new.self) in
    let cut = members_cut text literal (entries_left c.loop-key.key-iterator) (entries_left c.next.new.self) c.in-Some.key.now c.in-Some.value.now key c.in-Some.ensures.steps c.as_text.ensures in
    (member_falls _ _ _ _ (nested_member (view (entries_left c.loop-key.key-iterator)) key value more cut) c.loop-key.invariant.2 c.decreases, within)

pub print_value-print_items-requires : goal.print_value-print_items-requires
print_value-print_items-requires g t c κs within =
    let text = g.K.ObjectKey.text in
    let literal = g.D.Literal.literal in
    let tree = ap (λ vs. list (items_view text literal vs)) c.deref.ensures.value ∙ sym (ap (value_tree text literal) c.in-Array.is ∙ tree-Array text literal c.in-Array.items) in
    (same_falls _ _ _ (ap (λ u. length (listing u)) tree) c.decreases, within)

pub print_value-print_members-requires : goal.print_value-print_members-requires
print_value-print_members-requires g t c κs within =
    let text = g.K.ObjectKey.text in
    let literal = g.D.Literal.literal in
    let tree = sym (ap (value_tree text literal) c.in-Object.is ∙ tree-Object text literal c.in-Object.members) in
    (same_falls _ _ _ (ap (λ u. length (listing u)) tree) c.decreases, within)
