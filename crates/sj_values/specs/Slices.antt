-- What a deserializer of a view stands for: the nodes of the view, and the place of the next one.
use Rattle.std.specs.Prelude.{ℕ, List}
use Rattle.sj_tape.specs.Views.{value_nodes}
use Rattle.sj_tape.specs.declared.node.Node.{Node}
use Rattle.sj_values.specs.declared.slice.BorrowSliceDeserializer.{BorrowSliceDeserializer}

abbrev pub slice_nodes : BorrowSliceDeserializer → List Node
slice_nodes d = value_nodes d.view

abbrev pub slice_next : BorrowSliceDeserializer → ℕ
slice_next d = d.next
