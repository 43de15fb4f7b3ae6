-- The tree of a node that has no nodes beneath it by its kind.
use Rattle.std.specs.Prelude.{Option, Some, None}
use Rattle.sj_base.specs.Tree.{Tree, decimal, string}
use Rattle.sj_base.specs.Scalar.{decimal_text, static_tree}
use Rattle.sj_tape.specs.declared.node.Node.{Node}
use Rattle.sj_tape.specs.declared.node.Node.TheVariants.{String, Object, Array, Static, Decimal}

abbrev pub leaf_tree : Node → Option Tree
leaf_tree (String s) = Some (string s.now)
leaf_tree (Object len count) = None
leaf_tree (Array len count) = None
leaf_tree (Static s) = Some (static_tree s)
leaf_tree (Decimal d) = Some (decimal (decimal_text d))
