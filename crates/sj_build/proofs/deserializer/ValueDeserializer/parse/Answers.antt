use Rattle.std.proofs.Common.{◌+◌, length, ap, ◌∙◌}
use Rattle.sj_tape.specs.Views.{value_nodes, value_tree as view_tree}
use Rattle.sj_parse.specs.Answers.{deserializer_nodes, deserializer_next}
use Rattle.sj_build.proofs.Steps.{takes, fits}
use Rattle.sj_build.proofs.deserializer.ValueDeserializer.parse.Goals as goal

pub skip-requires : goal.skip-requires
skip-requires g c =
    let left = c.args.self.now.nodes in
    let next = c.next_value-view in
    rw c.nodes-count.ensures.nodes (fits (deserializer_nodes left) (value_nodes next.result) next.ensures.nodes.0 (deserializer_next left) c.requires next.ensures.nodes.1)

pub returns-clause-value : goal.returns-clause-value
returns-clause-value g c =
    let left = c.args.self.now.nodes in
    let next = c.next_value-view in
    let moved = c.skip.ensures.next ∙ ap (λ ns. deserializer_next left + length ns) c.nodes-count.ensures.nodes in
    takes (deserializer_nodes left) (value_nodes next.result) next.ensures.nodes.0 (deserializer_next left) (deserializer_next c.skip.new.self) (view_tree next.result) (g.V.BuildValue.tree c.in_ok-value.value) next.ensures.nodes.1 next.ensures.listed c.in_ok-value.ensures moved
