-- The lowest bit's place is the first of those that are left.
use Rattle.std.proofs.Common.{◌≡◌, ◌+◌, ◌^◌, ◌<◌, ◌∷◌, [], ◌++◌, All, length, sym, ap, subst, ◌∙◌, arith, append_assoc, append-nil}
use Rattle.std.proofs.lemmas.List.Elements.{All-head, All-tail}
use lib.Count.{count_trailing_zeros}
use Rattle.sj_scan.specs.inside.Masks.{set_places}
use Rattle.sj_scan.proofs.SetPlaces.{others, set_places-lowest, set_places-none}
use Rattle.sj_scan.proofs.push.push_each_place.Goals as goal

pub overflow_add-base : goal.overflow_add-base
overflow_add-base c =
    let base = c.args.base in
    let rest = c.loop-rest.rest in
    let lowest = set_places-lowest 64 base rest (omega arith) (omega arith) in
    let first = All-head (λ place. place < 2 ^ 32) (base + count_trailing_zeros 64 rest) (set_places 64 base (others rest)) (subst (All (λ place. place < 2 ^ 32)) lowest c.loop-rest.invariant.fits) in
    record { fits = first }

pub push_reserved-requires : goal.push_reserved-requires
push_reserved-requires c =
    let lowest = ap length (set_places-lowest 64 c.args.base c.loop-rest.rest (omega arith) (omega arith)) in
    omega arith

pub loop-rest-preserved : goal.loop-rest-preserved
loop-rest-preserved c =
    let base = c.args.base in
    let rest = c.loop-rest.rest in
    let place = base + count_trailing_zeros 64 rest in
    let left = set_places 64 base (others rest) in
    let lowest = set_places-lowest 64 base rest (omega arith) (omega arith) in
    let pushed = c.push_reserved.ensures.items in
    record {
      items = ap (λ xs. xs ++ left) pushed ∙ append_assoc c.loop-rest.out.items (place ∷ []) left ∙ ap (λ xs. c.loop-rest.out.items ++ xs) (sym lowest) ∙ c.loop-rest.invariant.items;
      room = let shorter = ap length lowest in omega arith;
      fits = All-tail (λ p. p < 2 ^ 32) place left (subst (All (λ p. p < 2 ^ 32)) lowest c.loop-rest.invariant.fits);
      capacity = omega arith;
    }

pub returns-clause-items : goal.returns-clause-items
returns-clause-items c =
    let none : c.loop-rest.rest ≡ 0 = omega arith in
    sym (ap (λ n. c.loop-rest.out.items ++ set_places 64 c.args.base n) none ∙ ap (λ xs. c.loop-rest.out.items ++ xs) (set_places-none 64 c.args.base) ∙ append-nil c.loop-rest.out.items) ∙ c.loop-rest.invariant.items
