use Rattle.std.proofs.Common.{◌≡◌, ◌<◌, ◌≤◌, true, Some, None, length, get_or, sym, ap, subst, ◌∙◌, add-one, arith}
use Rattle.std.specs.List.{list_all}
use Rattle.std.proofs.lemmas.Bool.{not-true, not-false}
use Rattle.std.proofs.lemmas.List.{take_all}
use Rattle.sj_object.specs.Compare.{agree_at}
use Rattle.sj_object.specs.Pairs.{keys_of}
use Rattle.sj_object.proofs.Comparisons.{own_pair, all_more, agree_at-found, unequal_at, unequal_len, equal_by_keys}
use Rattle.sj_object.proofs.compare.ObjectPartialEq.eq.Goals as goal

pub returns-then-len : goal.returns-then-len
returns-then-len g c =
    unequal_len g.K.ObjectKey.text g.V.PartialEq.eq c.args.self.now c.args.other.now c.len.ensures.distinct c.len-2.ensures.distinct
    (λ e. c.if-len.true (c.len.ensures.len ∙ e ∙ sym c.len-2.ensures.len))

pub returns-then-ne : goal.returns-then-ne
returns-then-ne g c =
    let text = g.K.ObjectKey.text in
    let es = c.args.self.now in
    let i = c.loop-entry.entry-index in
    let e = c.entry-item.result in
    let items = c.deref-entry-items.ensures.value ∙ c.entries.ensures in
    let within : i < length es = omega (arith, c.loop-entry-test.true, ap length items) in
    let own = own_pair text e es i c.len.ensures.distinct within (c.entry-item.is ∙ ap (λ l. get_or l i e) items) in
    let theirs = sym (rw c.as_text.ensures at c.in-Some.ensures) in
    let agree = agree_at-found text g.V.PartialEq.eq es c.args.other.now (text e.key) e.value (Some c.in-Some.value.now) own theirs in
    unequal_at text g.V.PartialEq.eq es c.args.other.now (text e.key) (agree ∙ not-true _ (sym c.ne.ensures ∙ c.if-ne.true))

pub returns-in-None : goal.returns-in-None
returns-in-None g c =
    let text = g.K.ObjectKey.text in
    let es = c.args.self.now in
    let i = c.loop-entry.entry-index in
    let e = c.entry-item.result in
    let items = c.deref-entry-items.ensures.value ∙ c.entries.ensures in
    let within : i < length es = omega (arith, c.loop-entry-test.true, ap length items) in
    let own = own_pair text e es i c.len.ensures.distinct within (c.entry-item.is ∙ ap (λ l. get_or l i e) items) in
    let theirs = sym (rw c.as_text.ensures at c.in-None.ensures) in
    unequal_at text g.V.PartialEq.eq es c.args.other.now (text e.key) (agree_at-found text g.V.PartialEq.eq es c.args.other.now (text e.key) e.value None own theirs)

pub loop-entry-preserved : goal.loop-entry-preserved
loop-entry-preserved g c =
    let text = g.K.ObjectKey.text in
    let es = c.args.self.now in
    let test = agree_at text g.V.PartialEq.eq es c.args.other.now in
    let i = c.loop-entry.entry-index in
    let e = c.entry-item.result in
    let items = c.deref-entry-items.ensures.value ∙ c.entries.ensures in
    let within : i < length es = omega (arith, c.loop-entry-test.true, ap length items) in
    let here = c.entry-item.is ∙ ap (λ l. get_or l i e) items in
    let own = own_pair text e es i c.len.ensures.distinct within here in
    let theirs = sym (rw c.as_text.ensures at c.in-Some.ensures) in
    let agree = agree_at-found text g.V.PartialEq.eq es c.args.other.now (text e.key) e.value (Some c.in-Some.value.now) own theirs in
    let passes = subst (λ x. test (text x.key) ≡ true) here (agree ∙ not-false _ (sym c.ne.ensures ∙ c.if-ne.false)) in
    rw add-one (all_more text test e es i within c.loop-entry.invariant passes)

pub returns : goal.returns
returns g c =
    let text = g.K.ObjectKey.text in
    let es = c.args.self.now in
    let test = agree_at text g.V.PartialEq.eq es c.args.other.now in
    let i = c.loop-entry.entry-index in
    let items = c.deref-entry-items.ensures.value ∙ c.entries.ensures in
    let past : length es ≤ i = omega (arith, c.loop-entry-test.false, ap length items) in
    let all = subst (λ l. list_all test (keys_of text l) ≡ true) (take_all i es past) c.loop-entry.invariant in
    equal_by_keys text g.V.PartialEq.eq es c.args.other.now c.len.ensures.distinct c.len-2.ensures.distinct (sym c.len.ensures.len ∙ c.if-len.false ∙ c.len-2.ensures.len) all
