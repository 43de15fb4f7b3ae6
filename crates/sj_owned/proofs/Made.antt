-- Lists of values and of pairs, one more at a time.
use Rattle.std.proofs.Common.{◌≡◌, ℕ, List, [], ◌∷◌, ◌++◌, length, take, refl, ap, ◌∙◌}
use Rattle.std.specs.List.{AllZip}
use Rattle.sj_object.specs.Pairs.{put_key}
use Rattle.sj_object.specs.declared.entry.Entry.{Entry}
use Rattle.sj_owned.specs.From.{all_put}

pub zip_more : {A B : Type 0} (R : A → B → Type 0) (xs : List A) (ys : List B) (x : A) (y : B) → AllZip R xs ys → R x y → AllZip R (xs ++ x ∷ []) (ys ++ y ∷ [])
zip_more R [] [] x y h r = (r, tt)
zip_more R [] (z ∷ ys) x y h r = absurd h
zip_more R (w ∷ xs) [] x y h r = absurd h
zip_more R (w ∷ xs) (z ∷ ys) x y h r = (h.0, zip_more R xs ys x y h.1 r)

pub one_more_put : {K A : Type 0} (text : K → List ℕ) (es fs : List (Entry K A)) (f : Entry K A) → all_put text es (fs ++ f ∷ []) ≡ put_key text (all_put text es fs) f.key f.value
one_more_put text es [] f = refl
one_more_put text es (g ∷ fs) f = one_more_put text (put_key text es g.key g.value) fs f

whole : {A : Type 0} (xs ys : List A) → take (length xs) (xs ++ ys) ≡ xs
whole [] ys = refl
whole (x ∷ xs) ys = ap (λ l. x ∷ l) (whole xs ys)

-- what stands before a list that follows
pub front : {A : Type 0} (n : ℕ) (xs ys : List A) → n ≡ length xs → take n (xs ++ ys) ≡ xs
front n xs ys e = ap (λ k. take k (xs ++ ys)) e ∙ whole xs ys
