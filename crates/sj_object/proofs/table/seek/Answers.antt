use Rattle.std.proofs.Common.{◌≡◌, ◌∙◌, false, Some, slice_get, sym, ap, arith}
use Rattle.std.specs.Prelude.{eqb, ◌&&◌}
use Rattle.std.specs.Option.{option_copied}
use Rattle.std.proofs.lemmas.Bool.{and_right}
use Rattle.sj_object.specs.inside.Chains.{has_key, sought}
use Rattle.sj_object.proofs.Chains.{sought-none, sought-ends, sought-here, sought-on, get_found, other_hash}
use Rattle.sj_object.proofs.table.seek.Goals as goal
use Rattle.sj_object.proofs.table.seek.Goals.{else-link-hash-via-then-link-hash+else-has_key, else-link-hash-via-else-link-hash}

pub returns-in_err-place : goal.returns-in_err-place
returns-in_err-place g c =
    let text = g.K.ObjectKey.text in
    let es = c.args.entries.now in
    let links = c.args.links.now in
    let n = c.loop-left.left in
    rw c.from_residual.ensures (sym (c.loop-left.invariant ∙ ap (λ at. sought text es c.args.hash c.args.key.now n links at) c.in_err-place.was ∙ sought-none text es c.args.hash c.args.key.now n links))

pub returns-in_err-link : goal.returns-in_err-link
returns-in_err-link g c =
    let text = g.K.ObjectKey.text in
    let es = c.args.entries.now in
    let links = c.args.links.now in
    let n = c.loop-left.left in
    let place = c.in_ok-place.place in
    let none = sym (get_found links place c.get.result c.get.ensures.lookup) ∙ ap option_copied c.in_err-link.was in
    rw c.from_residual-in_err-link.ensures (sym (c.loop-left.invariant ∙ ap (λ at. sought text es c.args.hash c.args.key.now n links at) c.in_ok-place.was ∙ sought-ends text es c.args.hash c.args.key.now n links place none))

pub returns-then-has_key : goal.returns-then-has_key
returns-then-has_key g c =
    let text = g.K.ObjectKey.text in
    let es = c.args.entries.now in
    let links = c.args.links.now in
    let n = c.loop-left.left in
    let place = c.in_ok-place.place in
    let some : slice_get links place ≡ Some c.in_ok-link.link.now = sym (get_found links place c.get.result c.get.ensures.lookup) ∙ ap option_copied c.in_ok-link.was in
    sym (c.loop-left.invariant ∙ ap (λ at. sought text es c.args.hash c.args.key.now n links at) c.in_ok-place.was ∙ sought-here text es c.args.hash c.args.key.now n links place c.in_ok-link.link.now c.loop-left-test.true some c.if-link-hash.true (sym c.if-has_key.ensures))

pub loop-left-preserved : goal.loop-left-preserved
loop-left-preserved g c =
    let text = g.K.ObjectKey.text in
    let es = c.args.entries.now in
    let k = c.args.key.now in
    let links = c.args.links.now in
    let n = c.loop-left.left in
    let place = c.in_ok-place.place in
    let link = c.in_ok-link.link.now in
    let some : slice_get links place ≡ Some link = sym (get_found links place c.get.result c.get.ensures.lookup) ∙ ap option_copied c.in_ok-link.was in
    let other : (eqb link.hash c.args.hash && has_key text es place k) ≡ false = elim c.else-link-hash.branch [
      | else-link-hash-via-then-link-hash+else-has_key w ↦ and_right (eqb link.hash c.args.hash) (has_key text es place k) (sym w.has_key.ensures ∙ w.if-has_key.false)
      | else-link-hash-via-else-link-hash w ↦ other_hash link.hash c.args.hash (has_key text es place k) w.if-link-hash.false
    ] in
    c.loop-left.invariant ∙ ap (λ at. sought text es c.args.hash k n links at) c.in_ok-place.was ∙ sought-on text es c.args.hash k n links place link c.loop-left-test.true some other

pub returns : goal.returns
returns g c =
    let none : c.loop-left.left ≡ 0 = omega (arith, c.loop-left-test.false) in
    sym (c.loop-left.invariant ∙ ap (λ n. sought g.K.ObjectKey.text c.args.entries.now c.args.hash c.args.key.now n c.args.links.now c.loop-left.at) none)
