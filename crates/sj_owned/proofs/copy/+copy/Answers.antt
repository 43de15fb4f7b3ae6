use Rattle.std.proofs.Common.{◌≡◌, ◌+◌, ◌∷◌, [], ◌++◌, length, map, take, refl, sym, ap, ap₂, subst, ◌∙◌, append_assoc, rules}
use Rattle.std.proofs.lemmas.List.{append-nil, take_all, take_more, map_push}
use Rattle.std.proofs.lemmas.Result.{IfOk-from_err}
use borrow.Author.Count.{falls}
use Rattle.sj_object.specs.Copies.{copied_pairs}
use Rattle.sj_object.specs.Iterators.{entries_left}
use Rattle.sj_object.specs.Pairs.{keys_of, AreDistinct}
use Rattle.sj_object.specs.declared.entry.Entry.{Entry}
use Rattle.sj_owned.specs.declared.value.Value.{Value, the_lemmas}
use Rattle.sj_owned.specs.inside.Copying.{kept_key, kept_value}
use Rattle.sj_owned.proofs.Copies.{array_copied, object_copied, next_copied, next_is_new}
use Rattle.sj_owned.proofs.Pieces.{shorter}
use Rattle.sj_owned.proofs.copy.+copy.Goals as goal

pub copy-returns-in-Static : goal.copy-returns-in-Static
copy-returns-in-Static g t c = search (rules, the_lemmas)

pub copy_items-loop-item-preserved : goal.copy_items-loop-item-preserved
copy_items-loop-item-preserved g t c =
    let kept = kept_value g.K.ObjectKey.text g.D.Literal.literal g.K.TryCopy.copied g.D.TryCopy.copied in
    let at = c.loop-item in
    let i = at.item-index in
    let items = c.deref-item-items.result.now in
    let v : Value g.row.K.Denot g.row.D.Denot = c.item-item.result in
    let made = c.in_ok-push_made.ensures in
    let next : take (i + 1) items ≡ take i items ++ v ∷ [] = take_more items i v c.loop-item-test.true ∙ ap (λ w. take i items ++ w ∷ []) (sym c.item-item.is) in
    ap (map kept) made.2 ∙ map_push kept at.copies.items made.0
    ∙ ap₂ (λ l w. l ++ w ∷ []) at.invariant (rw made.1 at c.copy.ensures)
    ∙ sym (map_push kept (take i items) v) ∙ ap (map kept) (sym next)

pub copy_members-loop-key-preserved : goal.copy_members-loop-key-preserved
copy_members-loop-key-preserved g t c =
    let text = g.K.ObjectKey.text in
    let key = g.K.TryCopy.copied in
    let value = kept_value text g.D.Literal.literal key g.D.TryCopy.copied in
    let at = c.loop-key in
    let done = at.invariant.2 in
    let e : Entry g.row.K.Denot (Value g.row.K.Denot g.row.D.Denot) = record { key = c.in-Some.key.now; value = c.in-Some.member.now } in
    let left = entries_left c.next.new.self in
    let first : entries_left at.key-iterator ≡ e ∷ left = c.in-Some.ensures.steps in
    let all : c.args.members.now ≡ done ++ e ∷ left = at.invariant.3 ∙ ap (λ es. done ++ es) first in
    let distinct = subst (λ es. AreDistinct (keys_of text es)) all c.emptied.ensures.distinct in
    let added = c.in_ok-append_copy.ensures in
    let name = ap₂ (λ s k. (s, k)) (g.met.K.CopyKey.keeps_text added.0 e.key added.3) added.3 in (
      tt,
      tt,
      done ++ e ∷ [],
      all ∙ sym (append_assoc done (e ∷ []) left),
      ap (copied_pairs (kept_key text key) value) added.4
          ∙ next_copied text key value text key value at.copies done left e added.0 added.1 distinct at.invariant.4 name (rw added.2 at c.copy.ensures),
    )

pub copy_members-append_copy-requires : goal.copy_members-append_copy-requires
copy_members-append_copy-requires g t c =
    let text = g.K.ObjectKey.text in
    let key = g.K.TryCopy.copied in
    let value = kept_value text g.D.Literal.literal key g.D.TryCopy.copied in
    let at = c.loop-key in
    let done = at.invariant.2 in
    let e : Entry g.row.K.Denot (Value g.row.K.Denot g.row.D.Denot) = record { key = c.in-Some.key.now; value = c.in-Some.member.now } in
    let left = entries_left c.next.new.self in
    let first : entries_left at.key-iterator ≡ e ∷ left = c.in-Some.ensures.steps in
    let all : c.args.members.now ≡ done ++ e ∷ left = at.invariant.3 ∙ ap (λ es. done ++ es) first in
    let distinct = subst (λ es. AreDistinct (keys_of text es)) all c.emptied.ensures.distinct in
    next_is_new text key value text key value at.copies done left e (text e.key) distinct at.invariant.4 refl

pub copy-returns-in_ok-copy_items-in-Array : goal.copy-returns-in_ok-copy_items-in-Array
copy-returns-in_ok-copy_items-in-Array g t c =
    let at = c.in_ok-copy_items-in-Array in
    array_copied g.K.ObjectKey.text g.D.Literal.literal g.K.TryCopy.copied g.D.TryCopy.copied c.args.value.now c.in-Array.items at.field-0 c.in-Array.is at.ensures

pub copy-returns-in_ok-copy_members-in-Object : goal.copy-returns-in_ok-copy_members-in-Object
copy-returns-in_ok-copy_members-in-Object g t c =
    let at = c.in_ok-copy_members-in-Object in
    object_copied g.K.ObjectKey.text g.D.Literal.literal g.K.TryCopy.copied g.D.TryCopy.copied c.args.value.now c.in-Object.members at.field-0 c.in-Object.is at.ensures

pub copy-returns-in_err-try_clone-in-Decimal : goal.copy-returns-in_err-try_clone-in-Decimal
copy-returns-in_err-try_clone-in-Decimal g t c = IfOk-from_err c.from_residual.result _ c.from_residual.ensures.0

pub copy-returns-in_err-try_clone-in-String : goal.copy-returns-in_err-try_clone-in-String
copy-returns-in_err-try_clone-in-String g t c = IfOk-from_err c.from_residual-in_err-try_clone-in-String.result _ c.from_residual-in_err-try_clone-in-String.ensures.0

pub copy-returns-in_err-copy_items-in-Array : goal.copy-returns-in_err-copy_items-in-Array
copy-returns-in_err-copy_items-in-Array g t c = IfOk-from_err c.from_residual-in_err-copy_items-in-Array.result _ c.from_residual-in_err-copy_items-in-Array.ensures.0

pub copy-returns-in_err-copy_members-in-Object : goal.copy-returns-in_err-copy_members-in-Object
copy-returns-in_err-copy_members-in-Object g t c = IfOk-from_err c.from_residual-in_err-copy_members-in-Object.result _ c.from_residual-in_err-copy_members-in-Object.ensures.0

pub copy_items-returns-in_err-copies : goal.copy_items-returns-in_err-copies
copy_items-returns-in_err-copies g t c = IfOk-from_err c.from_residual.result _ c.from_residual.ensures.0

pub copy_items-loop-item-init : goal.copy_items-loop-item-init
copy_items-loop-item-init g t c =
    let kept = kept_value g.K.ObjectKey.text g.D.Literal.literal g.K.TryCopy.copied g.D.TryCopy.copied in
    ap (map kept) c.in_ok-copies.ensures.items

pub copy_items-returns-in_err-push_made : goal.copy_items-returns-in_err-push_made
copy_items-returns-in_err-push_made g t c = IfOk-from_err c.from_residual-in_err-push_made.result _ c.from_residual-in_err-push_made.ensures.0

pub copy_items-loop-item-smaller : goal.copy_items-loop-item-smaller
copy_items-loop-item-smaller g t c = falls (length c.deref-item-items.result.now) c.loop-item.item-index c.loop-item-test.true

pub copy_items-returns : goal.copy_items-returns
copy_items-returns g t c =
    let kept = kept_value g.K.ObjectKey.text g.D.Literal.literal g.K.TryCopy.copied g.D.TryCopy.copied in
    c.loop-item.invariant ∙ ap (map kept) (take_all c.loop-item.item-index c.deref-item-items.result.now c.loop-item-test.false ∙ c.deref-item-items.ensures.value)

pub copy_members-returns-in_err-copies : goal.copy_members-returns-in_err-copies
copy_members-returns-in_err-copies g t c = IfOk-from_err c.from_residual.result _ c.from_residual.ensures.0

pub copy_members-returns-in_err-append_copy : goal.copy_members-returns-in_err-append_copy
copy_members-returns-in_err-append_copy g t c = IfOk-from_err c.from_residual-in_err-append_copy.result _ c.from_residual-in_err-append_copy.ensures.0

pub copy_members-loop-key-smaller : goal.copy_members-loop-key-smaller
copy_members-loop-key-smaller g t c = shorter _ _ _ c.in-Some.ensures.steps

pub copy_members-loop-key-init : goal.copy_members-loop-key-init
copy_members-loop-key-init g t c =
    let kept = copied_pairs (kept_key g.K.ObjectKey.text g.K.TryCopy.copied) (kept_value g.K.ObjectKey.text g.D.Literal.literal g.K.TryCopy.copied g.D.TryCopy.copied) in
    (tt, tt, [], search rules, ap kept c.in_ok-copies.ensures.empty)

pub copy_members-returns : goal.copy_members-returns
copy_members-returns g t c =
    let kept = copied_pairs (kept_key g.K.ObjectKey.text g.K.TryCopy.copied) (kept_value g.K.ObjectKey.text g.D.Literal.literal g.K.TryCopy.copied g.D.TryCopy.copied) in
    let at = c.loop-key in
    let done = at.invariant.2 in
    at.invariant.4 ∙ ap kept (sym (at.invariant.3 ∙ ap (λ es. done ++ es) c.in-None.ensures.steps.0 ∙ append-nil done))
