use Rattle.std.proofs.Common.{◌≡◌, ◌-◌, ◌++◌, ◌∷◌, [], take, sym, ap, ◌∙◌, arith, rules, take-suc}
use Rattle.std.proofs.lemmas.List.{map-append}
use Rattle.std.proofs.lemmas.Result.{IfOk-weaker}
use Rattle.sj_base.specs.Tree.{null}
use Rattle.sj_base.specs.Keep.{keep}
use Rattle.sj_tape.specs.Listed.{tree_of}
use Rattle.sj_tape.specs.Nodes.{node_entry, entries}
use Rattle.sj_tape.specs.Views.{value_tree as view_tree}
use Rattle.sj_tape.proofs.Tapes.{null_of-nil}
use Rattle.sj_build.specs.inside.Building.{shown_tree, first_part, stack, place, placed}
use Rattle.sj_build.proofs.Stacks.{nothing, one_fewer}
use Rattle.sj_build.proofs.Placed.{placed_last, built_whole}
use Rattle.sj_build.proofs.build.build_value.Goals as goal

pub loop-left-preserved : goal.loop-left-preserved
loop-left-preserved g c =
    let left = c.loop-left.left in
    let nodes = c.nodes-nodes.result.now in
    let node = c.index-nodes-left.result in
    let old = stack g.V.BuildValue.tree c.loop-left.parts in
    let before = take (left - 1) nodes in
    let some = c.loop-left-test.true in
    let whole : take left nodes ≡ before ++ node ∷ [] =
    ap (λ k. take k nodes) (one_fewer left (omega (arith, some)))
    ∙ take-suc nodes (left - 1) node (omega (arith, some, c.loop-left.invariant.0))
    ∙ ap (λ n. before ++ n ∷ []) (sym c.index-nodes-left.is) in (
      omega (arith, c.loop-left.invariant.0),
      ap (placed (entries before)) c.in_ok-place.ensures
          ∙ sym (placed_last (entries before) (node_entry node) old)
          ∙ ap (λ es. placed es old) (sym (map-append node_entry before (node ∷ [])) ∙ ap entries (sym whole))
          ∙ c.loop-left.invariant.1,
      λ none. absurd (search rules),
    )

pub returns-then-left-eq0 : goal.returns-then-left-eq0
returns-then-left-eq0 g c =
    let tree = g.V.BuildValue.tree in
    let left = c.loop-left.left in
    let nodes = c.nodes-nodes.result.now in
    let node = c.index-nodes-left.result in
    let old = stack tree c.loop-left.parts in
    let some = c.loop-left-test.true in
    let first : left - 1 ≡ 0 = search rules in
    let only : take left nodes ≡ node ∷ [] =
    ap (λ k. take k nodes) (one_fewer left (omega (arith, some)))
    ∙ take-suc nodes (left - 1) node (omega (arith, some, c.loop-left.invariant.0))
    ∙ ap (λ n. take (left - 1) nodes ++ n ∷ []) (sym c.index-nodes-left.is)
    ∙ ap (λ k. take k nodes ++ node ∷ []) first in
    let all : place (node_entry node) old ≡ placed (entries nodes) [] = ap (λ ns. placed (entries ns) old) (sym only) ∙ c.loop-left.invariant.1 in
    let kept = built_whole (entries nodes) (place (node_entry node) old) c.nodes-nodes.ensures.listed all ∙ ap (λ ns. keep (tree_of (entries ns))) c.nodes-nodes.ensures.nodes in
    IfOk-weaker c.build.result (λ v. tree v ≡ shown_tree (first_part (place (node_entry node) old))) (λ v. tree v ≡ keep (view_tree c.args.view)) (λ v h. h ∙ kept) c.build.ensures.value

pub returns : goal.returns
returns g c =
    let tree = g.V.BuildValue.tree in
    let nodes = c.nodes-nodes.result.now in
    let empty = nothing nodes (c.loop-left.invariant.2 (omega (arith, c.loop-left-test.false))) in
    let kept = sym (ap keep (null_of-nil nodes empty)) ∙ ap (λ ns. keep (tree_of (entries ns))) c.nodes-nodes.ensures.nodes in
    IfOk-weaker c.from_static.result (λ v. tree v ≡ null) (λ v. tree v ≡ keep (view_tree c.args.view)) (λ v h. h ∙ kept) c.from_static.ensures
