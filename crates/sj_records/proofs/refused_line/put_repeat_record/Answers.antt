use Rattle.std.proofs.Common.{◌∙◌, ap, ◌++◌, map}
use Rattle.sj_base.specs.Text.{items_text}
use Rattle.sj_tape.specs.Repeats.{part_view, repeat_view}
use Rattle.sj_records.specs.Record.{part_items}
use Rattle.sj_records.proofs.RecordText.{repeat_printed}
use Rattle.sj_records.proofs.refused_line.put_repeat_record.Goals as goal

pub returns : goal.returns
returns c =
    let opened = c.extend_from_slice.new.self.items in
    let path = c.in_ok-put_path.ensures ∙ ap (λ parts. opened ++ items_text (part_items (map part_view parts))) c.deref.ensures.value in
    repeat_printed (repeat_view c.args.repeat.now) c.args.out.now.items opened _ _ _ _
    c.in_ok-extend_from_slice.ensures.items path c.in_ok-extend_from_slice-2.ensures.items c.in_ok-put_string.ensures c.in_ok-push.ensures.items
