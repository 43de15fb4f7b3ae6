use Rattle.std.proofs.Common.{rules}
use Rattle.std.specs.Cmp.Lexicographic.{slice_cmp, nat_list_cmp_total}
use Rattle.std.specs.Ordering.{is_lt, nat_cmp}
use Rattle.std.proofs.lemmas.List.Sorted.{ranks_by, answers_always}
use Rattle.sj_owned.proofs.from.sort_pairs.Goals as goal

pub returns-clause-sorted : goal.returns-clause-sorted
returns-clause-sorted g c =
    let text = g.K.ObjectKey.text in
    c.sort_unstable_by.ensures.sorted (λ x y. is_lt (slice_cmp nat_cmp (text x.0) (text y.0))) (ranks_by nat_list_cmp_total (λ p. text p.0)) (answers_always _ _ _ (λ f a r f' h. search rules))
