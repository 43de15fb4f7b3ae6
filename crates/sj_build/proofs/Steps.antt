-- The document of a view of the next value is what a deserializer takes.
use Rattle.std.proofs.Common.{◌≡◌, ℕ, ◌+◌, ◌<◌, ◌≤◌, List, ◌++◌, drop, length, sym, ap, ◌∙◌, arith, length-append}
use Rattle.std.proofs.lemmas.List.{length-drop, map-append}
use Rattle.sj_base.specs.Tree.{Tree}
use Rattle.sj_base.specs.Keep.{keep}
use Rattle.sj_tape.specs.Listing.{listing}
use Rattle.sj_tape.specs.Nodes.{node_entry, entries}
use Rattle.sj_tape.specs.declared.node.Node.{Node}
use Rattle.sj_tape.proofs.NodeLists.{length-entries}
use Rattle.sj_build.specs.Steps.{Takes}

pub takes : (nodes value rest : List Node) (place next : ℕ) (t u : Tree) → drop place nodes ≡ value ++ rest → entries value ≡ listing t → u ≡ keep t → next ≡ place + length value → Takes nodes place u next
takes nodes value rest place next t u cut listed kept there = (
  t,
  entries rest,
  ap entries cut ∙ map-append node_entry value rest ∙ ap (λ es. es ++ entries rest) listed,
  kept,
  there ∙ ap (λ n. place + n) (sym (length-entries value) ∙ ap length listed),
)

-- The nodes of the next value are left.
pub fits : (nodes value rest : List Node) (place : ℕ) → place < length nodes → drop place nodes ≡ value ++ rest → place + length value ≤ length nodes
fits nodes value rest place some cut = omega (arith, some, length-drop place nodes, ap (λ (ns : List Node). length ns) cut, length-append value rest)
