use Rattle.std.proofs.Common.{◌≡◌, ◌↔◌, length}
use Rattle.sj_owned.specs.Views.{value_tree}
use Rattle.sj_owned.proofs.Zipped.{AreEqual}
use Rattle.sj_owned.proofs.same_as.equal_items.Given as goal

-- What is left is of equal length, and is equal exactly where the whole is.
abbrev pub invariant-loop-value : goal.invariant-loop-value
invariant-loop-value g l =
    let tree = value_tree g.K.ObjectKey.text g.D.Literal.literal in
    let values = l.value-iterator.a.rest.now in
    let items = l.value-iterator.b.rest.now in
    (length values ≡ length items)
    × (AreEqual g.U.Comparand.equals tree values items ↔ AreEqual g.U.Comparand.equals tree l.values l.items)
