use Rattle.std.proofs.Common.{◌≡◌, List, ◌++◌, map, length}
use Rattle.std.specs.Vec.Iter.{into_iter_items, into_iter_len}
use Rattle.sj_object.specs.Copies.{copied_pairs}
use Rattle.sj_object.specs.Iterators.{owned_left}
use Rattle.sj_object.specs.declared.entry.Entry.{Entry}
use Rattle.sj_owned.specs.declared.value.Value.{Value}
use Rattle.sj_owned.specs.inside.Copying.{kept_key, kept_value, converted}
use Rattle.sj_owned.proofs.convert.+convert.Given as goal

abbrev pub invariant-convert_items-loop-item : goal.invariant-convert_items-loop-item
invariant-convert_items-loop-item g l =
    let new = kept_value g.L.ObjectKey.text g.E.Literal.literal g.K.IntoKey.after g.D.IntoLiteral.after in
    let old = kept_value g.K.ObjectKey.text g.D.Literal.literal g.K.IntoKey.before g.D.IntoLiteral.before in
    (goal.iterator-convert_items-loop-item g).can_next l.item-iterator
    × (goal.iterator-convert_items-loop-item g).is_finite l.item-iterator
    × (done : List (Value g.row.K.Denot g.row.D.Denot))
    × (l.fn.items.items ≡ done ++ into_iter_items l.item-iterator)
    × (into_iter_len l.item-iterator ≡ length (into_iter_items l.item-iterator))
    × (map new l.converted.items ≡ map (λ v. converted g.K.IntoKey.change g.D.IntoLiteral.change (old v)) done)

abbrev pub invariant-convert_members-loop-key : goal.invariant-convert_members-loop-key
invariant-convert_members-loop-key g l =
    let new = kept_value g.L.ObjectKey.text g.E.Literal.literal g.K.IntoKey.after g.D.IntoLiteral.after in
    let old = kept_value g.K.ObjectKey.text g.D.Literal.literal g.K.IntoKey.before g.D.IntoLiteral.before in
    (goal.iterator-convert_members-loop-key g).can_next l.key-iterator
    × (goal.iterator-convert_members-loop-key g).is_finite l.key-iterator
    × (done : List (Entry g.row.K.Denot (Value g.row.K.Denot g.row.D.Denot)))
    × (l.fn.members ≡ done ++ owned_left l.key-iterator)
    × (copied_pairs (kept_key g.L.ObjectKey.text g.K.IntoKey.after) new l.converted
    ≡ copied_pairs (kept_key g.K.ObjectKey.text (λ k. g.K.IntoKey.change (g.K.IntoKey.before k))) (λ v. converted g.K.IntoKey.change g.D.IntoLiteral.change (old v)) done)
