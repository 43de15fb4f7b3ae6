use Rattle.std.proofs.Common.{◌≡◌, ◌≢◌, [], ap, ◌∙◌, rules}
use Rattle.std.proofs.lemmas.List.{nil_from_length}
use Rattle.sj_base.specs.Tree.{null}
use Rattle.sj_tape.specs.Listed.{tree_of}
use Rattle.sj_tape.specs.Views.{value_tree}
use Rattle.sj_tape.proofs.Comparing.{same_listed}
use Rattle.sj_tape.proofs.Tapes.{null_of-nil}
use Rattle.sj_tape.proofs.value.Value.same.Goals as goal
use Rattle.sj_tape.proofs.value.Value.same.Goals.{then-is_empty, else-is_empty}

pub returns-else-same_null : goal.returns-else-same_null
returns-else-same_null c =
    let other : value_tree c.args.self.now ≢ null = search rules in
    elim c.if-is_empty.branch [
      | then-is_empty w ↦ absurd (other (null_of-nil c.args.self.now.nodes.now (nil_from_length _ (search rules))))
      | else-is_empty w ↦
          let nil : value_tree c.args.other.now ≡ null = null_of-nil c.args.other.now.nodes.now (nil_from_length _ (search rules)) in
          ((λ t. search rules), (λ e. absurd (other (e ∙ nil))))
    ]

pub returns-else-is_empty-2 : goal.returns-else-is_empty-2
returns-else-is_empty-2 c = elim c.if-is_empty.branch [
  | then-is_empty w ↦ search rules
  | else-is_empty w ↦
      let a : c.args.self.now.nodes.now ≢ [] = search rules in
      let b : c.args.other.now.nodes.now ≢ [] = search rules in
      ((λ t. ap tree_of (c.same_nodes.ensures.0 t)), (λ e. c.same_nodes.ensures.1 (same_listed c.args.self.now.nodes.now c.args.other.now.nodes.now c.args.self.now.listed c.args.other.now.listed a b e)))
]
