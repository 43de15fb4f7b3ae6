use Rattle.std.proofs.Common.{◌≡◌, ◌++◌, ◌∷◌, [], length, sym, ap, ◌∙◌, arith, rules}
use Rattle.std.proofs.lemmas.List.{map-append}
use Rattle.std.proofs.lemmas.Result.{IfOk-weaker}
use Rattle.sj_base.specs.Tree.{null}
use Rattle.sj_base.specs.Keep.{keep}
use Rattle.sj_tape.specs.Listed.{tree_of, listed_tree, option_listing}
use Rattle.sj_tape.specs.Nodes.{node_entry, entries}
use Rattle.sj_tape.specs.Views.{tape_nodes, nodes_tree}
use Rattle.sj_tape.proofs.Tapes.{null_of-nil}
use Rattle.sj_build.specs.inside.Building.{shown_tree, first_part, stack, place, placed}
use Rattle.sj_build.proofs.Stacks.{nothing}
use Rattle.sj_build.proofs.Placed.{placed_last, built_whole}
use Rattle.sj_build.proofs.build.build_tape.Goals as goal

pub loop-node-preserved : goal.loop-node-preserved
loop-node-preserved g c =
    let node = c.in-Some.node in
    let before = c.pop.new.self.items in
    let old = stack g.V.BuildValue.tree c.loop-node.parts in (
      ap (λ ns. placed (entries ns) (stack g.V.BuildValue.tree c.place.new.parts)) c.release.ensures
          ∙ ap (placed (entries before)) c.in_ok-place.ensures
          ∙ sym (placed_last (entries before) (node_entry node) old)
          ∙ ap (λ es. placed es old) (sym (map-append node_entry before (node ∷ [])) ∙ ap entries (sym c.in-Some.ensures.items))
          ∙ c.loop-node.invariant.0,
      λ none. absurd (search rules),
    )

pub returns-then-is_empty : goal.returns-then-is_empty
returns-then-is_empty g c =
    let tree = g.V.BuildValue.tree in
    let nodes = c.into_nodes-nodes.result.items in
    let node = c.in-Some.node in
    let old = stack tree c.loop-node.parts in
    let empty : c.pop.new.self.items ≡ [] = search rules in
    let only : c.loop-node.nodes.items ≡ node ∷ [] = c.in-Some.ensures.items ∙ ap (λ ns. ns ++ node ∷ []) empty in
    let all : place (node_entry node) old ≡ placed (entries nodes) [] = ap (λ ns. placed (entries ns) old) (sym only) ∙ c.loop-node.invariant.0 in
    let listed = ap (λ ns. option_listing (listed_tree (entries ns))) c.into_nodes-nodes.ensures.nodes ∙ sym c.into_nodes-nodes.ensures.tree in
    let kept = built_whole (entries nodes) (place (node_entry node) old) listed all ∙ ap (λ ns. keep (tree_of (entries ns))) c.into_nodes-nodes.ensures.nodes in
    IfOk-weaker c.build.result (λ v. tree v ≡ shown_tree (first_part (place (node_entry node) old))) (λ v. tree v ≡ keep (nodes_tree (tape_nodes c.args.tape))) (λ v h. h ∙ kept) c.build.ensures.value

pub returns : goal.returns
returns g c =
    let tree = g.V.BuildValue.tree in
    let none = c.loop-node.invariant.1 (omega (arith, c.loop-node.nodes.ok.0, c.in_default.ensures.cases.0)) in
    let empty = nothing (tape_nodes c.args.tape) (sym (ap length c.into_nodes-nodes.ensures.nodes) ∙ none) in
    let kept = sym (ap keep (null_of-nil (tape_nodes c.args.tape) empty)) in
    IfOk-weaker c.from_static.result (λ v. tree v ≡ null) (λ v. tree v ≡ keep (nodes_tree (tape_nodes c.args.tape))) (λ v h. h ∙ kept) c.from_static.ensures
