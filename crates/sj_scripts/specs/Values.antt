-- The trees of documents that own their texts, as the values in a script do.
use Rattle.std.specs.Prelude.{string_bytes}
use Rattle.std.specs.declared.alloc.Global.{Global}
use Rattle.std.specs.declared.string.String.{String}
use Rattle.sj_base.specs.Tree.{Tree}
use Rattle.sj_base.specs.Scalar.{decimal_buf_text}
use Rattle.sj_base.specs.declared.decimal.DecimalBuf.{DecimalBuf}
use Rattle.sj_owned.specs.Views as owned
use Rattle.sj_owned.specs.declared.value.Value.{Value}

abbrev pub OwnedValue : Type 0
OwnedValue = Value (String Global) DecimalBuf

abbrev pub owned_tree : OwnedValue → Tree
owned_tree = owned.value_tree string_bytes decimal_buf_text
