use Rattle.std.proofs.Common.{arith, Option, None, sym, ap, ◌≡◌, ◌∙◌}
use Rattle.std.specs.Prelude.{drop, option_map}
use Rattle.sj_base.specs.Tree.{Items, Members}
use Rattle.sj_base.specs.Containers.{items_len}
use Rattle.sj_tape.specs.declared.repeat.Repeat.{Repeat}
use Rattle.sj_tape.specs.Repeats.{repeated, repeated_in_items, repeated_in_members}
use Rattle.sj_tape.specs.Views.{value_tree, array_items, object_members}
use Rattle.sj_tape.specs.inside.Earlier.{growing, texts}
use Rattle.sj_tape.proofs.Printing.{fewer_items, fewer_members, nested_item, nested_member}
use Rattle.sj_tape.proofs.Repeating.{next_item, next_member}
use Rattle.sj_tape.proofs.repeat.+search.Goals as goal

pub first_in_items-first_in-requires : goal.first_in_items-first_in-requires
first_in_items-first_in-requires t c =
    let item = nested_item (array_items c.loop-item.rest) (value_tree c.in-Some.item) (array_items c.in-Some.behind) c.in-Some.ensures.items in
    (omega (arith, item, c.loop-item.invariant.0), tt)

pub first_in_items-loop-item-preserved : goal.first_in_items-loop-item-preserved
first_in_items-loop-item-preserved t c =
    let rest = array_items c.loop-item.rest in
    let item = value_tree c.in-Some.item in
    let behind = array_items c.in-Some.behind in
    let none : repeated item ≡ None = sym c.in_ok-found.ensures.found ∙ ap (λ (found : Option Repeat). option_map growing found) c.in_default-2.is in (
      omega (arith, fewer_items rest item behind c.in-Some.ensures.items, c.loop-item.invariant.0),
      omega (arith, ap items_len c.in-Some.ensures.items, c.loop-item.invariant.1),
      c.in_ok-found.ensures.keys c.in_default-2.is ∙ c.loop-item.invariant.2,
      next_item c.loop-item.place _ rest item behind c.loop-item.invariant.3 c.in-Some.ensures.items none,
    )

pub first_in_items-loop-item-smaller : goal.first_in_items-loop-item-smaller
first_in_items-loop-item-smaller t c =
    fewer_items (array_items c.loop-item.rest) (value_tree c.in-Some.item) (array_items c.in-Some.behind) c.in-Some.ensures.items

pub first_in_items-returns-clause-found : goal.first_in_items-returns-clause-found
first_in_items-returns-clause-found t c =
    sym (c.loop-item.invariant.3 ∙ ap (λ (items : Items). repeated_in_items c.loop-item.place items) c.in_default.ensures.items)

pub first_in_members-first_in-requires : goal.first_in_members-first_in-requires
first_in_members-first_in-requires t c =
    let value = nested_member (object_members c.loop-key.rest) c.in-Some.key.now (value_tree c.in-Some.value) (object_members c.in-Some.behind) c.in-Some.ensures.members in
    (omega (arith, value, c.loop-key.invariant.0), tt)

pub first_in_members-loop-key-preserved : goal.first_in_members-loop-key-preserved
first_in_members-loop-key-preserved t c =
    let rest = object_members c.loop-key.rest in
    let key = c.in-Some.key.now in
    let value = value_tree c.in-Some.value in
    let behind = object_members c.in-Some.behind in
    let added = rw c.in_default-2.is at c.in_ok-repeat.ensures in
    let none : repeated value ≡ None = sym c.in_ok-found.ensures.found ∙ ap (λ (found : Option Repeat). option_map growing found) c.in_default-3.is in
    let kept = c.in_ok-found.ensures.keys c.in_default-3.is in
    rw kept (
      omega (arith, fewer_members rest key value behind c.in-Some.ensures.members, c.loop-key.invariant.0),
      added.within,
      added.around ∙ c.loop-key.invariant.2,
      added.lists,
      next_member _ _ _ rest key value behind c.loop-key.invariant.4 c.in-Some.ensures.members added.is_new none added.last,
    )

pub first_in_members-returns-clause-found : goal.first_in_members-returns-clause-found
first_in_members-returns-clause-found t c =
    let earlier = texts (drop c.len-start.result c.loop-key.keys.items) in
    sym (c.loop-key.invariant.4 ∙ ap (λ (members : Members). repeated_in_members earlier members) c.in_default.ensures.members)

pub first_in_members-returns-clause-keys : goal.first_in_members-returns-clause-keys
first_in_members-returns-clause-keys t c = λ _. c.truncate.ensures.items ∙ c.loop-key.invariant.2
