use Rattle.std.proofs.Common.{arith, ap, subst, ◌∙◌, ◌++◌}
use Rattle.sj_base.specs.declared.layout.Layout.{Layout}
use Rattle.sj_base.specs.declared.layout.Container.{Container}
use Rattle.std.proofs.lemmas.Result.{err_from_is_err_and}
use Rattle.sj_base.specs.Text.{quoted}
use Rattle.sj_base.specs.Tree.{Items, Members}
use Rattle.sj_base.specs.Layout.{laid_out, colon, filled, before_next, rest_text, end_text, item_texts, member_texts}
use Rattle.sj_base.proofs.Towards.{fault, list_fault, list_opened, object_fault, object_opened, next_item, next_member, same_left, value_fault, value_printed}
use Rattle.sj_tape.specs.Views.{value_tree, array_items, object_members}
use Rattle.sj_tape.proofs.Printing.{fewer_items, fewer_members, nested_item, nested_member, level_inside, finishes}
use Rattle.sj_tape.proofs.encode.+print.Goals as goal

pub print_items-returns-in_err-list : goal.print_items-returns-in_err-list
print_items-returns-in_err-list g t c =
    rw (err_from_is_err_and c.from_residual.result c.from_residual.ensures.1).1 (list_fault g.met.O.Output.laws c.args.layout (array_items c.args.items) c.in_err-list.ensures.printed)

pub print_items-loop-item-init : goal.print_items-loop-item-init
print_items-loop-item-init g t c = (
  omega arith,
  ap (λ (x : Container). x.inside) c.in_ok-list.ensures.container,
  list_opened g.met.O.Output.laws c.args.layout (array_items c.args.items) c.in_ok-list.list c.in_ok-list.ensures.container c.in_ok-list.ensures.printed,
)

pub print_items-loop-item-smaller : goal.print_items-loop-item-smaller
print_items-loop-item-smaller g t c =
    fewer_items (array_items c.loop-item.rest) (value_tree c.in-Some.item) (array_items c.in-Some.behind) c.in-Some.ensures.items

pub print_members-returns-in_err-object : goal.print_members-returns-in_err-object
print_members-returns-in_err-object g t c =
    rw (err_from_is_err_and c.from_residual.result c.from_residual.ensures.1).1 (object_fault g.met.O.Output.laws c.args.layout (object_members c.args.members) c.in_err-object.ensures.printed)

pub print_members-loop-key-init : goal.print_members-loop-key-init
print_members-loop-key-init g t c = (
  omega arith,
  ap (λ (x : Container). x.inside) c.in_ok-object.ensures.container,
  object_opened g.met.O.Output.laws c.args.layout (object_members c.args.members) c.in_ok-object.object c.in_ok-object.ensures.container c.in_ok-object.ensures.printed,
)

pub print_members-returns-in_err-key : goal.print_members-returns-in_err-key
print_members-returns-in_err-key g t c =
    let object = c.loop-key.object in
    let left = next_member object (object_members c.loop-key.rest) c.in-Some.key.now (value_tree c.in-Some.value) (object_members c.in-Some.behind) c.loop-key.invariant.2 c.in-Some.ensures.members in
    rw (err_from_is_err_and c.from_residual-in_err-key.result c.from_residual-in_err-key.ensures.1).1 (fault g.met.O.Output.laws (before_next object ++ (quoted c.in-Some.key.now ++ colon object.inside)) (laid_out object.inside (value_tree c.in-Some.value) ++ rest_text (filled object) (member_texts object.inside (object_members c.in-Some.behind))) left c.in_err-key.ensures.printed)

pub print_members-returns-in_err-print_value : goal.print_members-returns-in_err-print_value
print_members-returns-in_err-print_value g t c =
    let object = c.loop-key.object in
    let value = value_tree c.in-Some.value in
    let left = next_member object (object_members c.loop-key.rest) c.in-Some.key.now value (object_members c.in-Some.behind) c.loop-key.invariant.2 c.in-Some.ensures.members in
    let inside = c.inside.ensures ∙ ap (λ (x : Container). x.inside) c.in_ok-key.ensures.container in
    let begun = subst (λ (y : Layout). g.O.Output.begins c.key.new.out c.print_value.new.out (laid_out y value)) inside c.in_err-print_value.ensures in
    rw (err_from_is_err_and c.from_residual-in_err-print_value.result c.from_residual-in_err-print_value.ensures.1).1 (value_fault g.met.O.Output.laws (before_next object ++ (quoted c.in-Some.key.now ++ colon object.inside)) (laid_out object.inside value) (rest_text (filled object) (member_texts object.inside (object_members c.in-Some.behind))) left c.in_ok-key.ensures.printed begun)

pub print_members-loop-key-preserved : goal.print_members-loop-key-preserved
print_members-loop-key-preserved g t c =
    let object = c.loop-key.object in
    let value = value_tree c.in-Some.value in
    let left = next_member object (object_members c.loop-key.rest) c.in-Some.key.now value (object_members c.in-Some.behind) c.loop-key.invariant.2 c.in-Some.ensures.members in
    let fewer = fewer_members (object_members c.loop-key.rest) c.in-Some.key.now value (object_members c.in-Some.behind) c.in-Some.ensures.members in
    let inside = c.inside.ensures ∙ ap (λ (x : Container). x.inside) c.in_ok-key.ensures.container in
    let printed = subst (λ (y : Layout). g.O.Output.appends c.key.new.out c.print_value.new.out (laid_out y value)) inside c.in_ok-print_value.ensures in
    rw c.in_ok-key.ensures.container (
      omega (arith, fewer, c.loop-key.invariant.0),
      c.loop-key.invariant.1,
      value_printed g.met.O.Output.laws (before_next object ++ (quoted c.in-Some.key.now ++ colon object.inside)) (laid_out object.inside value) (rest_text (filled object) (member_texts object.inside (object_members c.in-Some.behind))) left c.in_ok-key.ensures.printed printed,
    )

pub print_items-print_value-requires : goal.print_items-print_value-requires
print_items-print_value-requires g t c =
    let item = nested_item (array_items c.loop-item.rest) (value_tree c.in-Some.item) (array_items c.in-Some.behind) c.in-Some.ensures.items in
    let level = level_inside c.inside.result c.args.layout (c.inside.ensures ∙ ap (λ (x : Container). x.inside) c.in_ok-next.ensures.container ∙ c.loop-item.invariant.1) in
    λ κs outlives. (omega (arith, item, c.loop-item.invariant.0), (outlives.0, (outlives.1, omega (arith, item, level, c.loop-item.invariant.0))))

pub print_items-returns-in_err-next : goal.print_items-returns-in_err-next
print_items-returns-in_err-next g t c =
    let list = c.loop-item.list in
    let left = next_item list (array_items c.loop-item.rest) (value_tree c.in-Some.item) (array_items c.in-Some.behind) c.loop-item.invariant.2 c.in-Some.ensures.items in
    rw (err_from_is_err_and c.from_residual-in_err-next.result c.from_residual-in_err-next.ensures.1).1 (fault g.met.O.Output.laws (before_next list) (laid_out list.inside (value_tree c.in-Some.item) ++ rest_text (filled list) (item_texts list.inside (array_items c.in-Some.behind))) left c.in_err-next.ensures.printed)

pub print_items-returns-in_err-print_value : goal.print_items-returns-in_err-print_value
print_items-returns-in_err-print_value g t c =
    let list = c.loop-item.list in
    let item = value_tree c.in-Some.item in
    let left = next_item list (array_items c.loop-item.rest) item (array_items c.in-Some.behind) c.loop-item.invariant.2 c.in-Some.ensures.items in
    let inside = c.inside.ensures ∙ ap (λ (x : Container). x.inside) c.in_ok-next.ensures.container in
    let begun = subst (λ (y : Layout). g.O.Output.begins c.next.new.out c.print_value.new.out (laid_out y item)) inside c.in_err-print_value.ensures in
    rw (err_from_is_err_and c.from_residual-in_err-print_value.result c.from_residual-in_err-print_value.ensures.1).1 (value_fault g.met.O.Output.laws (before_next list) (laid_out list.inside item) (rest_text (filled list) (item_texts list.inside (array_items c.in-Some.behind))) left c.in_ok-next.ensures.printed begun)

pub print_items-loop-item-preserved : goal.print_items-loop-item-preserved
print_items-loop-item-preserved g t c =
    let list = c.loop-item.list in
    let item = value_tree c.in-Some.item in
    let left = next_item list (array_items c.loop-item.rest) item (array_items c.in-Some.behind) c.loop-item.invariant.2 c.in-Some.ensures.items in
    let fewer = fewer_items (array_items c.loop-item.rest) item (array_items c.in-Some.behind) c.in-Some.ensures.items in
    let inside = c.inside.ensures ∙ ap (λ (x : Container). x.inside) c.in_ok-next.ensures.container in
    let printed = subst (λ (y : Layout). g.O.Output.appends c.next.new.out c.print_value.new.out (laid_out y item)) inside c.in_ok-print_value.ensures in
    rw c.in_ok-next.ensures.container (
      omega (arith, fewer, c.loop-item.invariant.0),
      c.loop-item.invariant.1,
      value_printed g.met.O.Output.laws (before_next list) (laid_out list.inside item) (rest_text (filled list) (item_texts list.inside (array_items c.in-Some.behind))) left c.in_ok-next.ensures.printed printed,
    )

pub print_items-returns : goal.print_items-returns
print_items-returns g t c =
    let list = c.loop-item.list in
    let left = same_left (end_text list) c.loop-item.invariant.2 (ap (λ (items : Items). rest_text list (item_texts list.inside items)) c.in_default.ensures.items) in
    finishes c.close.result _ left c.close.ensures

pub print_members-print_value-requires : goal.print_members-print_value-requires
print_members-print_value-requires g t c =
    let value = nested_member (object_members c.loop-key.rest) c.in-Some.key.now (value_tree c.in-Some.value) (object_members c.in-Some.behind) c.in-Some.ensures.members in
    let level = level_inside c.inside.result c.args.layout (c.inside.ensures ∙ ap (λ (x : Container). x.inside) c.in_ok-key.ensures.container ∙ c.loop-key.invariant.1) in
    λ κs outlives. (omega (arith, value, c.loop-key.invariant.0), (outlives.0, (outlives.1, omega (arith, value, level, c.loop-key.invariant.0))))

pub print_members-returns : goal.print_members-returns
print_members-returns g t c =
    let object = c.loop-key.object in
    let left = same_left (end_text object) c.loop-key.invariant.2 (ap (λ (members : Members). rest_text object (member_texts object.inside members)) c.in_default.ensures.members) in
    finishes c.close.result _ left c.close.ensures
