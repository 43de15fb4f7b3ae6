-- When two objects are equal.
use Rattle.std.specs.Prelude.{ℕ, Bool, ◌&&◌, List}
use Rattle.std.specs.List.{list_all}
use Rattle.std.specs.Option.{option_eq}
use Rattle.sj_object.specs.declared.entry.Entry.{Entry}
use Rattle.sj_object.specs.Pairs.{keys_of, value_at}

module _ {K V : Type 0} (text : K → List ℕ) (same : V → V → Bool) where
  -- whether both have a value for the key k and the two are the same, or neither has one
  abbrev pub agree_at : List (Entry K V) → List (Entry K V) → List ℕ → Bool
  agree_at es fs k = option_eq same (value_at text es k) (value_at text fs k)

  -- whether the two agree at each key of either
  abbrev pub same_pairs : List (Entry K V) → List (Entry K V) → Bool
  same_pairs es fs = list_all (agree_at es fs) (keys_of text es) && list_all (agree_at es fs) (keys_of text fs)
