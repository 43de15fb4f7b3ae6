use Rattle.std.proofs.Common.{rules, arith, ◌≡◌, ◌+◌, ◌<◌, ◌≤◌, ◌∷◌, true, false, List, drop, length, ℕ, Option, None, option_map, sym, subst}
use Rattle.sj_tape.specs.Listing.{Entry, list_entry, object_entry}
use Rattle.sj_tape.specs.Nodes.{entries}
use Rattle.sj_tape.specs.inside.Passing.{PassesTree, PassesContents}
use Rattle.sj_tape.proofs.NodeLists.{length-entries}
use Rattle.sj_tape.proofs.Passings.{no_tree, loop_failed, loop_step, loop_finished, container_failed, container_counted}
use Rattle.sj_tape.proofs.check.+check.Goals as goal

pub contents_end-returns-in_err-end-clause-passes : goal.contents_end-returns-in_err-end-clause-passes
contents_end-returns-in_err-end-clause-passes t c =
    let es : List Entry = entries c.args.nodes.now in
    let none : c.from_residual.result ≡ None = search rules in
    subst (λ (r : Option ℕ). PassesContents c.args.has_keys c.args.len (drop c.args.start es) (option_map (λ (end : ℕ). drop end es) r)) (sym none)
    (loop_failed c.args.has_keys c.args.len c.loop-i._i (drop c.args.start es) (drop c.loop-i.end es) (omega arith) c.loop-i.invariant.2 c.in_err-end.ensures.passes)

pub contents_end-loop-i-preserved : goal.contents_end-loop-i-preserved
contents_end-loop-i-preserved t c =
    let es : List Entry = entries c.args.nodes.now in
    let b : (c.loop-i.end < c.in_ok-end.end) × (c.in_ok-end.end ≤ length c.args.nodes.now) = c.in_ok-end.ensures.bounds in
    let a : c.args.start ≤ c.loop-i.end = c.loop-i.invariant.0 in
    (omega arith, b.1, loop_step c.args.has_keys c.args.len c.loop-i._i (drop c.args.start es) (drop c.loop-i.end es) (drop c.in_ok-end.end es) (omega arith) c.loop-i.invariant.2 c.in_ok-end.ensures.passes)

pub contents_end-returns-clause-passes : goal.contents_end-returns-clause-passes
contents_end-returns-clause-passes t c =
    let es : List Entry = entries c.args.nodes.now in
    loop_finished c.args.has_keys c.args.len c.loop-i._i (drop c.args.start es) (drop c.loop-i.end es) (omega arith) c.loop-i.invariant.2

pub tree_end-returns-in_err-leaf-clause-passes : goal.tree_end-returns-in_err-leaf-clause-passes
tree_end-returns-in_err-leaf-clause-passes t c =
    let es : List Entry = entries c.args.nodes.now in
    let none : c.from_residual.result ≡ None = search rules in
    subst (λ (r : Option ℕ). PassesTree (drop c.args.start es) (option_map (λ (end : ℕ). drop end es) r)) (sym none)
    (no_tree (drop c.args.start es) c.in_err-leaf.ensures)

pub tree_end-returns-in_err-end-in-Array-clause-passes : goal.tree_end-returns-in_err-end-in-Array-clause-passes
tree_end-returns-in_err-end-in-Array-clause-passes t c =
    let es : List Entry = entries c.args.nodes.now in
    let none : c.from_residual-in_err-end-in-Array.result ≡ None = search rules in
    let front : drop c.args.start es ≡ list_entry c.in-Array.len c.in-Array.count ∷ drop (c.args.start + 1) es = search rules in
    subst (λ (r : Option ℕ). PassesTree (drop c.args.start es) (option_map (λ (end : ℕ). drop end es) r)) (sym none)
    (container_failed false (drop c.args.start es) (drop (c.args.start + 1) es) c.in-Array.len c.in-Array.count front c.in_err-end-in-Array.ensures.passes)

pub tree_end-returns-in_err-end-in-Object-clause-passes : goal.tree_end-returns-in_err-end-in-Object-clause-passes
tree_end-returns-in_err-end-in-Object-clause-passes t c =
    let es : List Entry = entries c.args.nodes.now in
    let none : c.from_residual-in_err-end-in-Object.result ≡ None = search rules in
    let front : drop c.args.start es ≡ object_entry c.in-Object.len c.in-Object.count ∷ drop (c.args.start + 1) es = search rules in
    subst (λ (r : Option ℕ). PassesTree (drop c.args.start es) (option_map (λ (end : ℕ). drop end es) r)) (sym none)
    (container_failed true (drop c.args.start es) (drop (c.args.start + 1) es) c.in-Object.len c.in-Object.count front c.in_err-end-in-Object.ensures.passes)

pub tree_end-returns-in_ok-end-in-Array-clause-passes : goal.tree_end-returns-in_ok-end-in-Array-clause-passes
tree_end-returns-in_ok-end-in-Array-clause-passes t c =
    let es : List Entry = entries c.args.nodes.now in
    let all : length es ≡ length c.args.nodes.now = length-entries c.args.nodes.now in
    let front : drop c.args.start es ≡ list_entry c.in-Array.len c.in-Array.count ∷ drop (c.args.start + 1) es = search rules in
    let b : (c.args.start + 1 ≤ c.in_ok-end-in-Array.end) × (c.in_ok-end-in-Array.end ≤ length c.args.nodes.now) = c.in_ok-end-in-Array.ensures.bounds in
    container_counted false es c.args.start c.in_ok-end-in-Array.end c.in-Array.len c.in-Array.count c.counted.result front (omega arith) (omega arith) c.in_ok-end-in-Array.ensures.passes c.counted.ensures

pub tree_end-returns-in_ok-end-in-Object-clause-passes : goal.tree_end-returns-in_ok-end-in-Object-clause-passes
tree_end-returns-in_ok-end-in-Object-clause-passes t c =
    let es : List Entry = entries c.args.nodes.now in
    let all : length es ≡ length c.args.nodes.now = length-entries c.args.nodes.now in
    let front : drop c.args.start es ≡ object_entry c.in-Object.len c.in-Object.count ∷ drop (c.args.start + 1) es = search rules in
    let b : (c.args.start + 1 ≤ c.in_ok-end-in-Object.end) × (c.in_ok-end-in-Object.end ≤ length c.args.nodes.now) = c.in_ok-end-in-Object.ensures.bounds in
    container_counted true es c.args.start c.in_ok-end-in-Object.end c.in-Object.len c.in-Object.count c.counted-in-Object.result front (omega arith) (omega arith) c.in_ok-end-in-Object.ensures.passes c.counted-in-Object.ensures

pub contents_end-part_end-requires : goal.contents_end-part_end-requires
contents_end-part_end-requires t c = (omega arith, tt)

pub part_end-tree_end-requires-else-has_keys : goal.part_end-tree_end-requires-else-has_keys
part_end-tree_end-requires-else-has_keys t c = (omega arith, tt)

pub contents_end-returns-clause-bounds : goal.contents_end-returns-clause-bounds
contents_end-returns-clause-bounds t c = (c.loop-i.invariant.0, c.loop-i.invariant.1)

pub part_end-returns-else-has_keys-clause-passes : goal.part_end-returns-else-has_keys-clause-passes
part_end-returns-else-has_keys-clause-passes t c = rw c.if-has_keys.false c.tree_end-else-has_keys.ensures.passes

pub part_end-returns-else-has_keys-clause-bounds : goal.part_end-returns-else-has_keys-clause-bounds
part_end-returns-else-has_keys-clause-bounds t c = c.tree_end-else-has_keys.ensures.bounds
