-- Documents made of lists of values and of pairs.
use Rattle.std.specs.Prelude.{◌≡◌, ℕ, List, [], ◌∷◌, Some, map, String}
use Rattle.std.specs.Cmp.Lexicographic.{slice_cmp}
use Rattle.std.specs.List.{AllZip}
use Rattle.std.specs.List.Sorted.{IsPermutation, IsSortedByKey}
use Rattle.std.specs.Ordering.{nat_cmp}
use Rattle.sj_object.specs.Pairs.{put_key}
use Rattle.sj_object.specs.declared.entry.Entry.{Entry}
use Rattle.sj_owned.specs.Views.{items_inside, members_inside}
use Rattle.sj_owned.specs.declared.value.Value.{Value}

-- the pairs es, and those behind them put one by one: the last value of a key stands in the first one's place
abbrev pub all_put : {K A : Type 0} → (K → List ℕ) → List (Entry K A) → List (Entry K A) → List (Entry K A)
all_put text es [] = es
all_put text es (f ∷ fs) = all_put text (put_key text es f.key f.value) fs

module _ {K D S : Type 0} (converts : S → Value K D → Type 0) where
  -- an array of what these values are converted to
  abbrev pub IsArrayOf : List S → Value K D → Type 0
  IsArrayOf xs v = (vs : List (Value K D)) × AllZip converts xs vs × (items_inside v ≡ Some vs)

  -- a pair of the same key, and of what the value is converted to
  abbrev pub IsPairOf : K × S → Entry K (Value K D) → Type 0
  IsPairOf p e = (e.key ≡ p.0) × converts p.1 e.value

  -- an object of these pairs, put one by one
  abbrev pub IsObjectOf : (K → List ℕ) → List (K × S) → Value K D → Type 0
  IsObjectOf text ps v = (es : List (Entry K (Value K D))) × AllZip IsPairOf ps es × (members_inside v ≡ Some (all_put text [] es))

-- an object of the entries with their keys converted, in the order of the keys' bytes
abbrev pub IsObjectOfEntries : {K D Y : Type 0} → (String Y → K) → (K → List ℕ) → List (String Y × Value K D) → Value K D → Type 0
IsObjectOfEntries {K} {D} of_string text entries v =
    (ps : List (K × Value K D)) × IsPermutation (map (λ e. (of_string e.0, e.1)) entries) ps
    × IsSortedByKey (λ p. text p.0) (slice_cmp nat_cmp) ps × IsObjectOf (λ x y. y ≡ x) text ps v
