use Rattle.std.proofs.Common.{◌≡◌, true, length, Some, set, get_or, refl, sym, ap, subst, ◌∙◌}
use Rattle.std.specs.Prelude.{nat_le}
use Rattle.sj_object.specs.Pairs.{keys_of, AreDistinct}
use Rattle.sj_object.specs.inside.Chains.{IsTable}
use Rattle.sj_object.specs.inside.Stored.{stored}
use Rattle.sj_object.proofs.Distinct.{keys_of-set}
use Rattle.sj_object.proofs.Places.{set_place-set, values_at}
use Rattle.sj_object.proofs.object.Object.value_mut.Goals as goal

pub invariant_of-self-lent : goal.invariant_of-self-lent
invariant_of-self-lent g c w =
    let text = g.K.ObjectKey.text in
    let items = c.in-Listed.entries.items in
    let r = c.index_mut.result.now in
    let here : r ≡ get_or items c.args.at r = c.index_mut.ensures.value ∙ ap (λ v. get_or v.items c.args.at r) c.in-Listed.entries-is in
    let kept = ap (λ e. keys_of text (set items c.args.at (record { key = e.key; value = w }))) here ∙ keys_of-set text r w items c.args.at in
    let was = rw c.in-Listed.is at c.self.invariant in
    rw c.in-Listed.is (subst (λ ks. AreDistinct ks × (nat_le (length ks) 32 ≡ true)) (sym kept) was)

pub invariant_of-self-lent-in-Hashed : goal.invariant_of-self-lent-in-Hashed
invariant_of-self-lent-in-Hashed g c w =
    let text = g.K.ObjectKey.text in
    let lent = c.deref_mut.result.now in
    let r = c.index_mut-in-Hashed.result.now in
    let kept = ap (λ e. keys_of text (set lent.entries.items c.args.at (record { key = e.key; value = w }))) c.index_mut-in-Hashed.ensures.value ∙ keys_of-set text r w lent.entries.items c.args.at in
    let same : lent ≡ c.in-Hashed.pairs.value = c.deref_mut.ensures.value ∙ ap (λ b. b.value) c.in-Hashed.pairs-is in
    let was = rw c.in-Hashed.is at c.self.invariant in
    let is = subst (λ p. AreDistinct (keys_of text p.entries.items) × IsTable p.table (keys_of text p.entries.items)) (sym same) was in
    rw c.in-Hashed.is (subst (λ ks. AreDistinct ks × IsTable lent.table ks) (sym kept) is)

pub returns-in-Listed : goal.returns-in-Listed
returns-in-Listed g c =
    let items = c.in-Listed.entries.items in
    let r = c.index_mut.result.now in
    let view : items ≡ c.args.self.now = sym (ap (λ p. (stored p).items) c.in-Listed.is) ∙ c.self.view_is in
    let here : r ≡ get_or items c.args.at r = c.index_mut.ensures.value ∙ ap (λ v. get_or v.items c.args.at r) c.in-Listed.entries-is in
    let within = rw (← view) at c.requires in (
      (refl, λ w. rw (c.in-Listed.is, ← view) (ap (λ e. set items c.args.at (record { key = e.key; value = w })) here ∙ sym (set_place-set r w items c.args.at))),
      record { writes_back = tt; value = rw (← view) (values_at r items c.args.at within ∙ ap (λ e. Some e.value) (sym here)) },
    )

pub returns-in-Hashed : goal.returns-in-Hashed
returns-in-Hashed g c =
    let lent = c.deref_mut.result.now in
    let items = lent.entries.items in
    let r = c.index_mut-in-Hashed.result.now in
    let same : lent ≡ c.in-Hashed.pairs.value = c.deref_mut.ensures.value ∙ ap (λ b. b.value) c.in-Hashed.pairs-is in
    let view : items ≡ c.args.self.now = ap (λ p. p.entries.items) same ∙ sym (ap (λ p. (stored p).items) c.in-Hashed.is) ∙ c.self.view_is in
    let here = c.index_mut-in-Hashed.ensures.value in
    let within = rw (← view) at c.requires in (
      (refl, λ w. rw (c.in-Hashed.is, ← view) (ap (λ e. set items c.args.at (record { key = e.key; value = w })) here ∙ sym (set_place-set r w items c.args.at))),
      record { writes_back = tt; value = rw (← view) (values_at r items c.args.at within ∙ ap (λ e. Some e.value) (sym here)) },
    )
