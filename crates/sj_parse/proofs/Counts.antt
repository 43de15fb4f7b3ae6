-- What the descent keeps of the places that it read.
use Rattle.std.proofs.Common.{◌≡◌, ℕ, zero, suc, ◌+◌, ◌<◌, List, [], ◌∷◌, ◌++◌, length, Some, true, refl, sym, ap, ◌∙◌, arith}
use Rattle.std.specs.Prelude.{nat_lt, slice_get, slice_index}
use Rattle.std.specs.List.{range_with_len}
use Rattle.std.proofs.lemmas.Bool.{lt-ltb}
use Rattle.std.proofs.lemmas.List.{append_assoc}
use Rattle.sj_scan.proofs.Places.{range_with_len-more}
use Rattle.sj_base.specs.Reads.{noted}

pub item-some : (items : List ℕ) (i n : ℕ) → Some n ≡ slice_get items i → (i < length items) × (n ≡ slice_index items i)
item-some [] i n e = absurd cc
item-some (x ∷ xs) zero n e = (omega arith, cc)
item-some (x ∷ xs) (suc i) n e = let p = item-some xs i n e in (omega (arith, p.0), p.1)

-- One place more was read.
pub counted-next : (items old places : List ℕ) (count : ℕ) (new : List ℕ) → count < length items → new ≡ noted items places count → places ≡ old ++ range_with_len 0 count → new ≡ old ++ range_with_len 0 (count + 1)
counted-next items old places count new lt are read =
    let here : nat_lt count (length items) ≡ true = lt-ltb count (length items) lt in
    let listed : noted items places count ≡ places ++ count ∷ [] = rw here refl in
    are ∙ listed ∙ ap (λ (xs : List ℕ). xs ++ count ∷ []) read ∙ append_assoc old (range_with_len 0 count) (count ∷ []) ∙ ap (λ (xs : List ℕ). old ++ xs) (sym (range_with_len-more count))
