-- What is wanted stands at the front, and the vector is cut behind it.
use Rattle.std.proofs.Common.{◌≡◌, ◌+◌, ◌++◌, length, take, count_ones, sym, ap, ◌∙◌, arith, length-append}
use Rattle.std.proofs.lemmas.List.{take-append-le}
use Rattle.sj_scan.specs.inside.Masks.{set_places}
use Rattle.sj_scan.proofs.SetPlaces.{length-set_places}
use Rattle.sj_scan.proofs.push.push_places.Goals as goal

pub returns-clause-items : goal.returns-clause-items
returns-clause-items c =
    let base = c.args.base in
    let found = c.loop-out.out.items in
    let wanted = c.args.out.now.items ++ set_places 64 base c.args.mask in
    let long = length-append c.args.out.now.items (set_places 64 base c.args.mask) in
    let bits = length-set_places 64 base c.args.mask c.ranges.mask.fits in
    let end : c.len.result + count_ones c.args.mask ≡ length wanted = omega arith in
    c.truncate.ensures.items ∙ ap (λ n. take n found) end ∙ sym (take-append-le (length wanted) found (set_places 64 base c.loop-out.rest) (omega arith)) ∙ c.loop-out.invariant.front
