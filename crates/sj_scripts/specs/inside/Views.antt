-- The lists inside documents that own their texts.
use Rattle.std.specs.Prelude.{List, string_bytes}
use Rattle.sj_base.specs.Tree.{Items}
use Rattle.sj_base.specs.Scalar.{decimal_buf_text}
use Rattle.sj_owned.specs.Views as owned
use Rattle.sj_scripts.specs.Values.{OwnedValue}

abbrev pub items_view : List OwnedValue → Items
items_view = owned.items_view string_bytes decimal_buf_text
