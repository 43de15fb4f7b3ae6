use Rattle.std.proofs.Common.{◌<◌, ◌≤◌, arith, length, slice_index, refl}
use Rattle.std.proofs.lemmas.List.{nil_from_length}
use Rattle.std.proofs.lemmas.List.Elements.{All-from_get_or, Contains-get_or}
use Rattle.std.proofs.lemmas.List.Sorted.{IsNonDecreasingBy-from_sort, IsPermutation-sym, Contains-permutation, All-permutation}
use Rattle.read_bench.proofs.stats.Stats.of.Goals as goal

pub returns-clause-median : goal.returns-clause-median
returns-clause-median c =
    (c.sort_unstable.new.self, c.sort_unstable.ensures.permutation, IsNonDecreasingBy-from_sort (λ x. x) _ c.sort_unstable.ensures.sorted, refl)

pub returns-clause-least : goal.returns-clause-least
returns-clause-least c =
    let old = c.args.times.now in
    let new = c.sort_unstable.new.self in
    let back = IsPermutation-sym old new c.sort_unstable.ensures.permutation in
    let rises = IsNonDecreasingBy-from_sort (λ x. x) new c.sort_unstable.ensures.sorted in
    let some : 0 < length new = grind (arith, c.sort_unstable.ensures.len, nil_from_length old) in
    let least = slice_index new 0 in (
      Contains-permutation new old least back (Contains-get_or new 0 0 some),
      All-permutation (λ time. least ≤ time) new old back (All-from_get_or (λ time. least ≤ time) new 0 (λ i h. rises 0 i 0 (omega arith) h)),
    )
