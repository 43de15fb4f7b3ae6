-- What the search for a repeated key holds: the keys that it has met in an object, and the path that it has made.
use Rattle.std.specs.Prelude.{◌≡◌, ◌≤◌, ℕ, false, List, [], ◌∷◌, ◌++◌, Option, IfSome, length, map, take, drop, reverse}
use Rattle.std.specs.Borrow.{Bor}
use Rattle.std.specs.BTreeSet.{BTreeSet, contains_by}
use Rattle.std.specs.Cmp.Lexicographic.{slice_cmp}
use Rattle.std.specs.Ordering.{nat_cmp}
use Rattle.sj_tape.specs.declared.repeat.Repeat.{Repeat}
use Rattle.sj_tape.specs.Repeats.{Repetition, is_among, part_view}

abbrev pub texts : List (Bor (List ℕ)) → List (List ℕ)
texts keys = map (λ key. key.now) keys

-- the keys in the set, if there is one, are these
abbrev pub Lists : Option (BTreeSet (Bor (List ℕ))) → List (List ℕ) → Type 0
Lists listed ks = IfSome listed (λ set. (k : List ℕ) → contains_by (λ key. slice_cmp nat_cmp k key.now) set ≡ is_among k ks)

-- a key that is not among those of its object, which begin at this place, stands behind them now, and in the set, if there is one
pub record IsAdded (start : ℕ) (before after : List (Bor (List ℕ))) (listed : Option (BTreeSet (Bor (List ℕ)))) (key : List ℕ) : Type 0 where
  pub is_new : is_among key (texts (drop start before)) ≡ false
  pub within : start ≤ length after
  pub around : take start after ≡ take start before
  pub last : texts (drop start after) ≡ texts (drop start before) ++ key ∷ []
  pub lists : Lists listed (texts (drop start after))

-- what a `Repeat` stands for while its path grows from the innermost part on
abbrev pub growing : Repeat → Repetition
growing r = (reverse (map part_view r.path.items), r.key.now)
