use Rattle.std.proofs.Common.{◌≡◌, ◌++◌, map}
use Rattle.std.specs.Prelude.{drop}
use Rattle.sj_base.specs.Text.{items_text}
use Rattle.sj_tape.specs.Repeats.{part_view}
use Rattle.sj_documents.specs.inside.Documents.{items_left}
use Rattle.sj_records.specs.Record.{part_items}
use Rattle.sj_records.proofs.refused_line.put_path.Given as goal

-- what was appended, and what is left
abbrev pub invariant-loop-part : goal.invariant-loop-part
invariant-loop-part l =
    l.out.items ++ items_left l.is_first (part_items (map part_view (drop l.part-index l.path))) ≡ l.fn.out.items ++ items_text (part_items (map part_view l.fn.path))
