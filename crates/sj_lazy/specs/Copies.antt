-- What a copy of a lazy value has in common with its original.
use Rattle.std.specs.Prelude.{ℕ, Bool, List}
use Rattle.sj_base.specs.Tree.{Tree}
use Rattle.sj_owned.specs.Copies.{Leaf, leaves, held_text, held_literal}
use Rattle.sj_tape.specs.Views.{value_nodes, nodes_tree}
use Rattle.sj_tape.specs.declared.node.Node.{Node}
use Rattle.sj_lazy.specs.Contents.{Document, Value}
use Rattle.sj_lazy.specs.Views.{document_tree}
use Rattle.sj_lazy.specs.declared.held.Held.TheVariants.{Borrowed, Owned}
use Rattle.sj_lazy.specs.declared.value.TapeOrDocument.TheVariants as lazy

-- the nodes of a part of a tape, a borrowed document, or the tree and the leaves of an owned one
pub data Copied : Type 0 where
  same_nodes : List Node → Copied
  same_document : Document → Copied
  same_leaves : Tree → List (Leaf (Bool × List ℕ) (Bool × List ℕ)) → Copied

abbrev pub copied : Value → Copied
copied (lazy.Tape v) = same_nodes (value_nodes v)
copied (lazy.Value (Borrowed d)) = same_document d.now
copied (lazy.Value (Owned d)) = same_leaves (document_tree d) (leaves held_text held_literal d)

abbrev pub copied_tree : Copied → Tree
copied_tree (same_nodes ns) = nodes_tree ns
copied_tree (same_document d) = document_tree d
copied_tree (same_leaves t ls) = t
