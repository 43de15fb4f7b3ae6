use Rattle.std.proofs.lemmas.Grind.{common_steps}
use Rattle.std.proofs.Common.{◌≤◌, length, sym, subst, ap, ◌∙◌, arith}
use Rattle.std.proofs.lemmas.List.{take_all}
use Rattle.sj_object.specs.Copies.{copied_pairs}
use Rattle.sj_object.specs.Pairs.{keys_of, AreDistinct}
use Rattle.sj_object.proofs.Copying.{copied_keys}
use Rattle.sj_object.proofs.copy.ObjectTryCopy.try_clone.Goals as goal

pub with_entries-requires-clause-keys : goal.with_entries-requires-clause-keys
with_entries-requires-clause-keys g c =
    let es = c.args.self.now in
    let i = c.loop-entry.entry-index in
    let past : length es ≤ i = omega (arith, c.loop-entry-test.false, ap length (c.deref-entry-items.ensures.value ∙ c.entries-2.ensures)) in
    let all = c.loop-entry.invariant.0 ∙ ap (copied_pairs g.K.TryCopy.copied g.V.TryCopy.copied) (take_all i es past) in
    copied_keys g.K.ObjectKey.text g.K.TryCopy.copied g.V.TryCopy.copied g.met.K.CopyKey.keeps_text c.loop-entry.entries.items es all
    ∙ ap (keys_of g.K.ObjectKey.text) (sym c.self.view_is)

pub invariant_of-result : goal.invariant_of-result
invariant_of-result g c =
    let text = g.K.ObjectKey.text in
    let es = c.args.self.now in
    let i = c.loop-entry.entry-index in
    let past : length es ≤ i = omega (arith, c.loop-entry-test.false, ap length (c.deref-entry-items.ensures.value ∙ c.entries-2.ensures)) in
    let all = c.loop-entry.invariant.0 ∙ ap (copied_pairs g.K.TryCopy.copied g.V.TryCopy.copied) (take_all i es past) in
    let same = ap (keys_of text) c.in_ok-with_entries.ensures.pairs
    ∙ copied_keys text g.K.TryCopy.copied g.V.TryCopy.copied g.met.K.CopyKey.keeps_text c.loop-entry.entries.items es all in
    (subst AreDistinct (sym same) c.len.ensures.distinct, c.in_ok-with_entries.ensures.found)

pub loop-entry-preserved : goal.loop-entry-preserved
loop-entry-preserved c = grind (arith, common_steps)

pub loop-entry-init : goal.loop-entry-init
loop-entry-init g c = (
  ap (copied_pairs g.K.TryCopy.copied g.V.TryCopy.copied) c.in_ok-entries.ensures.items,
  c.in_ok-entries.ensures.len,
  omega (arith, c.in_ok-entries.ensures.capacity, c.len.ensures.len),
)

pub push_reserved-requires : goal.push_reserved-requires
push_reserved-requires g c =
    omega (arith, c.loop-entry.invariant.1, c.loop-entry.invariant.2, c.loop-entry-test.true, ap length (c.deref-entry-items.ensures.value ∙ c.entries-2.ensures))

pub returns : goal.returns
returns g c =
    let es = c.args.self.now in
    let i = c.loop-entry.entry-index in
    let copied = copied_pairs g.K.TryCopy.copied g.V.TryCopy.copied in
    let past : length es ≤ i = omega (arith, c.loop-entry-test.false, ap length (c.deref-entry-items.ensures.value ∙ c.entries-2.ensures)) in
    ap copied c.in_ok-with_entries.ensures.pairs ∙ c.loop-entry.invariant.0 ∙ ap copied (take_all i es past)
