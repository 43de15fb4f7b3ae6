use Rattle.std.proofs.Common.{◌≡◌, List, ◌++◌, take, map}
use Rattle.sj_object.specs.Copies.{copied_pairs}
use Rattle.sj_object.specs.Iterators.{entries_left}
use Rattle.sj_object.specs.declared.entry.Entry.{Entry}
use Rattle.sj_owned.specs.declared.value.Value.{Value}
use Rattle.sj_owned.specs.inside.Copying.{kept_key, kept_value}
use Rattle.sj_owned.proofs.copy.+copy.Given as goal

abbrev pub invariant-copy_items-loop-item : goal.invariant-copy_items-loop-item
invariant-copy_items-loop-item g l =
    let kept = kept_value g.K.ObjectKey.text g.D.Literal.literal g.K.TryCopy.copied g.D.TryCopy.copied in
    map kept l.copies.items ≡ map kept (take l.item-index l.item-items)

abbrev pub invariant-copy_members-loop-key : goal.invariant-copy_members-loop-key
invariant-copy_members-loop-key g l =
    let text = g.K.ObjectKey.text in
    let kept = copied_pairs (kept_key text g.K.TryCopy.copied) (kept_value text g.D.Literal.literal g.K.TryCopy.copied g.D.TryCopy.copied) in
    (goal.iterator-copy_members-loop-key g).can_next l.key-iterator
    × (goal.iterator-copy_members-loop-key g).is_finite l.key-iterator
    × (done : List (Entry g.row.K.Denot (Value g.row.K.Denot g.row.D.Denot)))
    × (l.fn.members ≡ done ++ entries_left l.key-iterator)
    × (kept l.copies ≡ kept done)
