-- A list from one of its items on.
use Rattle.std.proofs.Common.{◌≡◌, ℕ, ◌+◌, ◌<◌, length, get_or, List, ◌∷◌, drop, sym, ap₂, ◌∙◌, add-one, arith}
use Rattle.std.proofs.Math.Seq.{drop-cons}

-- the item at that index, and those behind it
pub cut_at : {A : Type 0} (xs : List A) (i : ℕ) (x : A) → i < length xs → x ≡ get_or xs i x → drop i xs ≡ x ∷ drop (i + 1) xs
cut_at xs i x within is = drop-cons xs i x within ∙ ap₂ (λ y k. y ∷ drop k xs) (sym is) (sym (add-one i))

-- what follows the first item is shorter
pub shorter : {A : Type 0} (x : A) (xs ys : List A) → ys ≡ x ∷ xs → length xs < length ys
shorter x xs ys h = rw h (omega arith)
