use Rattle.std.proofs.Common.{◌≡◌, ℕ, ◌+◌, ◌<◌, List, ◌∷◌, [], ◌++◌, length, map, refl, sym, ap, ap₂, subst, ◌∙◌, append_assoc, arith, rules}
use Rattle.std.proofs.lemmas.List.{map_push}
use Rattle.std.proofs.lemmas.Result.{IfOk-from_err}
use Rattle.std.specs.Vec.Iter.{into_iter_items}
use Rattle.sj_object.specs.Copies.{copied_pairs}
use Rattle.sj_object.specs.Iterators.{owned_left}
use Rattle.sj_object.specs.Pairs.{keys_of, AreDistinct}
use Rattle.sj_object.specs.declared.entry.Entry.{Entry}
use Rattle.sj_owned.specs.declared.value.Value.{Value, the_lemmas}
use Rattle.sj_owned.specs.inside.Copying.{Kept, kept_key, kept_value, converted}
use Rattle.sj_owned.proofs.Copies.{array_converted, object_converted, next_copied, next_is_new}
use Rattle.sj_owned.proofs.Pieces.{shorter}
use Rattle.sj_owned.proofs.convert.+convert.Goals as goal

less : (m n : ℕ) → m + 1 ≡ n → m < n
less m n h = omega arith

all_done : {A : Type 0} (done left all : List A) (n : ℕ) → all ≡ done ++ left → n ≡ length left → n ≡ 0 → done ≡ all
all_done done [] all n h k z = sym (h ∙ search rules)
all_done done (x ∷ left) all n h k z = absurd (omega arith)

pub convert-returns-in-Static : goal.convert-returns-in-Static
convert-returns-in-Static g t c = search (rules, the_lemmas)

pub convert-returns-in_ok-convert_items-in-Array :
    goal.convert-returns-in_ok-convert_items-in-Array
convert-returns-in_ok-convert_items-in-Array g t c =
    let at = c.in_ok-convert_items-in-Array in
    array_converted g.K.ObjectKey.text g.D.Literal.literal g.K.IntoKey.before g.D.IntoLiteral.before g.K.IntoKey.change g.D.IntoLiteral.change
    g.L.ObjectKey.text g.E.Literal.literal g.K.IntoKey.after g.D.IntoLiteral.after c.args.value c.in-Array.items at.field-0 c.in-Array.is at.ensures

pub convert-returns-in_ok-convert_members-in-Object :
    goal.convert-returns-in_ok-convert_members-in-Object
convert-returns-in_ok-convert_members-in-Object g t c =
    let at = c.in_ok-convert_members-in-Object in
    object_converted g.K.ObjectKey.text g.D.Literal.literal g.K.IntoKey.before g.D.IntoLiteral.before g.K.IntoKey.change g.D.IntoLiteral.change
    g.L.ObjectKey.text g.E.Literal.literal g.K.IntoKey.after g.D.IntoLiteral.after c.args.value c.in-Object.members at.field-0 c.in-Object.is at.ensures

pub convert_items-loop-item-preserved : goal.convert_items-loop-item-preserved
convert_items-loop-item-preserved g t c =
    let new = kept_value g.L.ObjectKey.text g.E.Literal.literal g.K.IntoKey.after g.D.IntoLiteral.after in
    let old : Value g.row.K.Denot g.row.D.Denot → Kept g.K.IntoKey.After g.D.IntoLiteral.After =
    λ v. converted g.K.IntoKey.change g.D.IntoLiteral.change (kept_value g.K.ObjectKey.text g.D.Literal.literal g.K.IntoKey.before g.D.IntoLiteral.before v) in
    let at = c.loop-item in
    let done = at.invariant.2 in
    let item = c.in-Some.item in
    let left = into_iter_items c.next.new.self in
    let made = c.in_ok-push_made.ensures in
    let steps = c.in-Some.ensures.steps in (
      tt,
      tt,
      done ++ item ∷ [],
      at.invariant.3 ∙ ap (λ vs. done ++ vs) steps.0 ∙ sym (append_assoc done (item ∷ []) left),
      omega (arith, at.invariant.4, steps.1, ap length steps.0),
      ap (map new) made.2
          ∙ map_push new at.converted.items made.0
          ∙ ap₂ (λ xs x. xs ++ x ∷ []) at.invariant.5 (rw made.1 at c.convert.ensures)
          ∙ sym (map_push old done item),
    )

pub convert_members-loop-key-init : goal.convert_members-loop-key-init
convert_members-loop-key-init g t c =
    let new = kept_value g.L.ObjectKey.text g.E.Literal.literal g.K.IntoKey.after g.D.IntoLiteral.after in
    (tt, tt, [], sym c.into_iter-key-iterator.ensures.into_iter_gives, ap (copied_pairs (kept_key g.L.ObjectKey.text g.K.IntoKey.after) new) c.in_ok-converted.ensures)

pub convert_members-loop-key-preserved : goal.convert_members-loop-key-preserved
convert_members-loop-key-preserved g t c =
    let text = g.K.ObjectKey.text in
    let new_text = g.L.ObjectKey.text in
    let new_key = g.K.IntoKey.after in
    let new = kept_value new_text g.E.Literal.literal new_key g.D.IntoLiteral.after in
    let key : g.row.K.Denot → g.K.IntoKey.After = λ k. g.K.IntoKey.change (g.K.IntoKey.before k) in
    let old : Value g.row.K.Denot g.row.D.Denot → Kept g.K.IntoKey.After g.D.IntoLiteral.After =
    λ v. converted g.K.IntoKey.change g.D.IntoLiteral.change (kept_value text g.D.Literal.literal g.K.IntoKey.before g.D.IntoLiteral.before v) in
    let at = c.loop-key in
    let done = at.invariant.2 in
    let e : Entry g.row.K.Denot (Value g.row.K.Denot g.row.D.Denot) = record { key = c.in-Some.key; value = c.in-Some.member } in
    let left = owned_left c.next.new.self in
    let first : owned_left at.key-iterator ≡ e ∷ left = c.in-Some.ensures.steps in
    let all : c.args.members ≡ done ++ e ∷ left = at.invariant.3 ∙ ap (λ es. done ++ es) first in
    let distinct = subst (λ es. AreDistinct (keys_of text es)) all c.len.ensures.distinct in
    let added = c.in_ok-append_converted.ensures in
    let name = ap₂ (λ s k. (s, k)) added.3 added.4 in (
      tt,
      tt,
      done ++ e ∷ [],
      all ∙ sym (append_assoc done (e ∷ []) left),
      ap (copied_pairs (kept_key new_text new_key) new) added.5
          ∙ next_copied text key old new_text new_key new at.converted done left e added.0 added.1 distinct at.invariant.4 name (rw added.2 at c.convert.ensures),
    )

pub convert_members-append_converted-requires : goal.convert_members-append_converted-requires
convert_members-append_converted-requires g t c =
    let text = g.K.ObjectKey.text in
    let new_text = g.L.ObjectKey.text in
    let new_key = g.K.IntoKey.after in
    let new = kept_value new_text g.E.Literal.literal new_key g.D.IntoLiteral.after in
    let key : g.row.K.Denot → g.K.IntoKey.After = λ k. g.K.IntoKey.change (g.K.IntoKey.before k) in
    let old : Value g.row.K.Denot g.row.D.Denot → Kept g.K.IntoKey.After g.D.IntoLiteral.After =
    λ v. converted g.K.IntoKey.change g.D.IntoLiteral.change (kept_value text g.D.Literal.literal g.K.IntoKey.before g.D.IntoLiteral.before v) in
    let at = c.loop-key in
    let done = at.invariant.2 in
    let e : Entry g.row.K.Denot (Value g.row.K.Denot g.row.D.Denot) = record { key = c.in-Some.key; value = c.in-Some.member } in
    let left = owned_left c.next.new.self in
    let first : owned_left at.key-iterator ≡ e ∷ left = c.in-Some.ensures.steps in
    let all : c.args.members ≡ done ++ e ∷ left = at.invariant.3 ∙ ap (λ es. done ++ es) first in
    let distinct = subst (λ es. AreDistinct (keys_of text es)) all c.len.ensures.distinct in
    next_is_new text key old new_text new_key new at.converted done left e (text e.key) distinct at.invariant.4 refl

pub convert-returns-in_err-into_literal-in-Decimal :
    goal.convert-returns-in_err-into_literal-in-Decimal
convert-returns-in_err-into_literal-in-Decimal g t c = IfOk-from_err c.from_residual.result _ c.from_residual.ensures.0

pub convert-returns-in_err-into_key-in-String : goal.convert-returns-in_err-into_key-in-String
convert-returns-in_err-into_key-in-String g t c = IfOk-from_err c.from_residual-in_err-into_key-in-String.result _ c.from_residual-in_err-into_key-in-String.ensures.0

pub convert-returns-in_err-convert_items-in-Array :
    goal.convert-returns-in_err-convert_items-in-Array
convert-returns-in_err-convert_items-in-Array g t c = IfOk-from_err c.from_residual-in_err-convert_items-in-Array.result _ c.from_residual-in_err-convert_items-in-Array.ensures.0

pub convert-returns-in_err-convert_members-in-Object :
    goal.convert-returns-in_err-convert_members-in-Object
convert-returns-in_err-convert_members-in-Object g t c = IfOk-from_err c.from_residual-in_err-convert_members-in-Object.result _ c.from_residual-in_err-convert_members-in-Object.ensures.0

pub convert-returns-in_ok-into_literal-in-Decimal :
    goal.convert-returns-in_ok-into_literal-in-Decimal
convert-returns-in_ok-into_literal-in-Decimal g t c = search (rules, the_lemmas)

pub convert-returns-in_ok-into_key-in-String : goal.convert-returns-in_ok-into_key-in-String
convert-returns-in_ok-into_key-in-String g t c = search (rules, the_lemmas)

pub convert_items-returns-in_err-converted : goal.convert_items-returns-in_err-converted
convert_items-returns-in_err-converted g t c = IfOk-from_err c.from_residual.result _ c.from_residual.ensures.0

pub convert_items-loop-item-init : goal.convert_items-loop-item-init
convert_items-loop-item-init g t c =
    let new = kept_value g.L.ObjectKey.text g.E.Literal.literal g.K.IntoKey.after g.D.IntoLiteral.after in
    let gives = c.into_iter-item-iterator.ensures.into_iter_gives in
    (tt, tt, [], sym gives.0, gives.1 ∙ c.args.items.ok.0 ∙ ap length (sym gives.0), ap (map new) c.in_ok-converted.ensures.items)

pub convert_items-loop-item-smaller : goal.convert_items-loop-item-smaller
convert_items-loop-item-smaller g t c = less _ _ c.in-Some.ensures.steps.1

pub convert_items-returns-in_err-push_made : goal.convert_items-returns-in_err-push_made
convert_items-returns-in_err-push_made g t c = IfOk-from_err c.from_residual-in_err-push_made.result _ c.from_residual-in_err-push_made.ensures.0

pub convert_items-returns : goal.convert_items-returns
convert_items-returns g t c =
    let old : Value g.row.K.Denot g.row.D.Denot → Kept g.K.IntoKey.After g.D.IntoLiteral.After =
    λ v. converted g.K.IntoKey.change g.D.IntoLiteral.change (kept_value g.K.ObjectKey.text g.D.Literal.literal g.K.IntoKey.before g.D.IntoLiteral.before v) in
    let at = c.loop-item in
    at.invariant.5 ∙ ap (map old) (all_done at.invariant.2 (into_iter_items at.item-iterator) c.args.items.items _ at.invariant.3 at.invariant.4 c.in-None.ensures.steps.0)

pub convert_members-loop-key-smaller : goal.convert_members-loop-key-smaller
convert_members-loop-key-smaller g t c = shorter _ _ _ c.in-Some.ensures.steps

pub convert_members-returns-in_err-converted : goal.convert_members-returns-in_err-converted
convert_members-returns-in_err-converted g t c = IfOk-from_err c.from_residual.result _ c.from_residual.ensures.0

pub convert_members-returns-in_err-append_converted :
    goal.convert_members-returns-in_err-append_converted
convert_members-returns-in_err-append_converted g t c = IfOk-from_err c.from_residual-in_err-append_converted.result _ c.from_residual-in_err-append_converted.ensures.0

pub convert_members-returns : goal.convert_members-returns
convert_members-returns g t c =
    let new = kept_value g.L.ObjectKey.text g.E.Literal.literal g.K.IntoKey.after g.D.IntoLiteral.after in
    let old : Value g.row.K.Denot g.row.D.Denot → Kept g.K.IntoKey.After g.D.IntoLiteral.After =
    λ v. converted g.K.IntoKey.change g.D.IntoLiteral.change (kept_value g.K.ObjectKey.text g.D.Literal.literal g.K.IntoKey.before g.D.IntoLiteral.before v) in
    let key : g.row.K.Denot → List ℕ × g.K.IntoKey.After = kept_key g.K.ObjectKey.text (λ k. g.K.IntoKey.change (g.K.IntoKey.before k)) in
    let at = c.loop-key in
    let all = all_done at.invariant.2 (owned_left at.key-iterator) c.args.members _ at.invariant.3 refl (ap length c.in-None.ensures.steps.0) in
    at.invariant.4 ∙ ap (λ es. copied_pairs key old es) all
