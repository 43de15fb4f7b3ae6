use Rattle.std.proofs.Common.{◌≡◌, ◌+◌, ◌-◌, ◌++◌, ◌∷◌, [], suc, map, drop, ap, ◌∙◌, arith}
use Rattle.std.proofs.lemmas.Result.{IfOk-weaker}
use Rattle.sj_base.specs.Tree.{list}
use Rattle.sj_build.specs.Trees.{items_of}
use Rattle.sj_build.specs.inside.Building.{stack, shown_tree, first_part, items_from, list_from}
use Rattle.sj_build.proofs.Stacks.{after, all_taken, item_then, drop_then}
use Rattle.sj_build.proofs.build.take_list.Goals as goal

pub loop-i-preserved : goal.loop-i-preserved
loop-i-preserved g c =
    let tree = g.V.BuildValue.tree in
    let items = c.loop-i.items.items in
    let ps = stack tree c.loop-i.parts in
    let n = c.args.len - c.loop-i._i in
    let m = c.args.len - (c.loop-i._i + 1) in
    let one : n ≡ suc m = omega (arith, c.loop-i-test.true) in (
      omega (arith, c.loop-i.invariant.0, c.in_ok-take_item.ensures.len),
      omega (arith, c.loop-i.invariant.1, c.take_item.ensures.room),
      ap (λ xs. after xs (items_from m (stack tree c.take_item.new.parts))) c.in_ok-take_item.ensures.items
          ∙ ap (λ qs. after (map tree items ++ shown_tree (first_part ps) ∷ []) (items_from m qs)) c.in_ok-take_item.ensures.rest
          ∙ item_then (map tree items) n m ps one
          ∙ c.loop-i.invariant.2,
      ap (drop m) c.in_ok-take_item.ensures.rest ∙ drop_then n m ps one ∙ c.loop-i.invariant.3,
    )

pub returns-clause-value : goal.returns-clause-value
returns-clause-value g c =
    let tree = g.V.BuildValue.tree in
    let xs = map tree c.loop-i.items.items in
    let ps = stack tree c.loop-i.parts in
    let all = all_taken xs (c.args.len - c.loop-i._i) ps (omega (arith, c.loop-i-test.false)) ∙ c.loop-i.invariant.2 in
    IfOk-weaker c.from_array.result (λ v. tree v ≡ list (items_of xs)) (λ v. tree v ≡ list_from c.args.len (stack tree c.args.parts.now)) (λ v h. h ∙ ap list all) c.from_array.ensures
