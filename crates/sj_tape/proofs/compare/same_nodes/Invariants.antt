use Rattle.std.proofs.Common.{◌≡◌, ◌↔◌, length}
use Rattle.sj_tape.specs.Nodes.{entries}
use Rattle.sj_tape.proofs.compare.same_nodes.Given as goal

-- What is left is of equal length, and is the same exactly where the whole is.
abbrev pub invariant-loop-x : goal.invariant-loop-x
invariant-loop-x l =
    let a = l.x-iterator.a.rest.now in
    let b = l.x-iterator.b.rest.now in
    (length a ≡ length b) × ((entries a ≡ entries b) ↔ (entries l.a ≡ entries l.b))
