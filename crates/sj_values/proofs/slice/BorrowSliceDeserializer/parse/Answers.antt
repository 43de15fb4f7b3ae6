use Rattle.std.proofs.Common.{◌+◌, List, length, ap, arith}
use Rattle.sj_tape.specs.declared.node.Node.{Node}
use Rattle.sj_tape.specs.Views.{value_nodes, value_tree as view_tree}
use Rattle.sj_owned.specs.Views.{value_tree}
use Rattle.std.specs.Cow.{cow_str_bytes}
use Rattle.sj_base.specs.Scalar.{decimal_cow_text}
use Rattle.sj_build.proofs.Steps.{takes, fits}
use Rattle.sj_values.specs.Slices.{slice_nodes, slice_next}
use Rattle.sj_values.proofs.slice.BorrowSliceDeserializer.parse.Goals as goal

pub prove-unreachable-requires : goal.prove-unreachable-requires
prove-unreachable-requires c =
    let d = c.args.self.now in
    let view = c.value_at-view in
    let within = fits (slice_nodes d) (value_nodes view.result) view.ensures.nodes.0 (slice_next d) c.requires view.ensures.nodes.1 in
    let end = ap (λ (ns : List Node). length ns) c.nodes-end.ensures.nodes in
    let count = ap (λ (ns : List Node). length ns) c.nodes-count.ensures.nodes in
    omega (arith, c.if-prove.true, within, end, count)

pub returns-clause-value : goal.returns-clause-value
returns-clause-value c =
    let d = c.args.self.now in
    let view = c.value_at-view in
    let moved = ap (λ ns. slice_next d + length ns) c.nodes-count.ensures.nodes in
    takes (slice_nodes d) (value_nodes view.result) view.ensures.nodes.0 (slice_next d) _ (view_tree view.result) (value_tree cow_str_bytes decimal_cow_text c.in_ok-value.value) view.ensures.nodes.1 view.ensures.listed c.in_ok-value.ensures moved
