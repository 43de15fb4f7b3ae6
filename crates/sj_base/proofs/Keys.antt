-- Keys as bytes, and members that are found by them.
use Rattle.std.proofs.Common.{◌≡◌, ℕ, Bool, true, false, cond, List, Option, Some, None, is_some, refl, sym, ap, subst, ◌∙◌}
use Rattle.std.specs.Str.{bytes_eq}
use Rattle.std.specs.Cmp.Lexicographic.{nat_list_eq_equiv}
use Rattle.std.proofs.lemmas.Bool.{true≢false}
use Rattle.std.proofs.lemmas.Option.{none-some, same_Some}
use Rattle.std.proofs.lemmas.Slice.Eq.{bytes_eq-Decides}

-- Keys that pass the test are equal.
pub same_key : (a b : List ℕ) → bytes_eq a b ≡ true → a ≡ b
same_key a b e = (bytes_eq-Decides a b).0 e

-- A key passes the test against itself,
pub own_key : (a : List ℕ) → bytes_eq a a ≡ true
own_key a = nat_list_eq_equiv.refl a

-- and the test may be turned round.
pub key_flip : (a b : List ℕ) (test : Bool) → bytes_eq a b ≡ test → bytes_eq b a ≡ test
key_flip a b test e = nat_list_eq_equiv.symm b a ∙ e

-- No key is two different keys.
pub not_both : {A : Type 0} (m n k : List ℕ) → bytes_eq m n ≡ true → bytes_eq m k ≡ true → bytes_eq n k ≡ false → A
not_both m n k e f other =
    absurd (true≢false (sym (own_key n) ∙ ap (bytes_eq n) (sym (same_key m n e) ∙ same_key m k f) ∙ other))

-- What is found is the first value, if its key passes the test, or else what is found behind it.
pub found_either : {A : Type 0} (P : A → Type 0) (test : Bool) (first found : A) (behind : Option A) → cond test (Some first) behind ≡ Some found
    → (test ≡ true → P first) → (behind ≡ Some found → P found) → P found
found_either P true first found behind e here there = subst P (same_Some first found e) (here refl)
found_either P false first found behind e here there = there e

-- Nothing is found if no key passes the test.
pub found_nowhere : {A : Type 0} (test : Bool) (first : A) (behind : Option A) → cond test (Some first) behind ≡ None → (test ≡ false) × (behind ≡ None)
found_nowhere true first behind e = absurd (none-some first (sym e))
found_nowhere false first behind e = (refl, e)

-- a value that is there
pub some_is : {A : Type 0} (o : Option A) → is_some o ≡ true → (x : A) × (o ≡ Some x)
some_is None e = absurd (true≢false (sym e))
some_is (Some x) e = (x, refl)
