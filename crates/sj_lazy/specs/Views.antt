-- What lazy values stand for.
use Rattle.std.specs.Cow.{cow_str_bytes}
use Rattle.sj_base.specs.Scalar.{decimal_cow_text}
use Rattle.sj_base.specs.Tree.{Tree}
use Rattle.sj_base.specs.declared.static_node.ValueType.{ValueType}
use Rattle.sj_owned.specs.Views.{value_tree, value_kind}
use Rattle.sj_tape.specs.Views.{nodes_tree, first_type}
use Rattle.sj_lazy.specs.Contents.{Document, Value, Contents, nodes, document, contents}

abbrev pub document_tree : Document → Tree
document_tree = value_tree cow_str_bytes decimal_cow_text

abbrev pub contents_tree : Contents → Tree
contents_tree (nodes ns) = nodes_tree ns
contents_tree (document d) = document_tree d

-- The type tells an I64 from a U64.
abbrev pub contents_kind : Contents → ValueType
contents_kind (nodes ns) = first_type ns
contents_kind (document d) = value_kind d

-- a tape's tree has its repeated keys
abbrev pub lazy_tree : Value → Tree
lazy_tree v = contents_tree (contents v)

abbrev pub lazy_kind : Value → ValueType
lazy_kind v = contents_kind (contents v)
