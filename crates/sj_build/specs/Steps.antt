-- What a deserializer of documents takes from its nodes.
use Rattle.std.specs.Prelude.{◌≡◌, ℕ, ◌+◌, List, ◌++◌, length, drop}
use Rattle.sj_base.specs.Tree.{Tree}
use Rattle.sj_base.specs.Keep.{keep}
use Rattle.sj_tape.specs.Listing.{Entry, listing}
use Rattle.sj_tape.specs.Nodes.{entries}
use Rattle.sj_tape.specs.declared.node.Node.{Node}

-- From a place on the nodes list a tree, and then others: u is what is kept of that tree, and the next place is behind it.
abbrev pub Takes : List Node → ℕ → Tree → ℕ → Type 0
Takes nodes place u next =
    (t : Tree) × (rest : List Entry) × (entries (drop place nodes) ≡ listing t ++ rest) × (u ≡ keep t) × (next ≡ place + length (listing t))
