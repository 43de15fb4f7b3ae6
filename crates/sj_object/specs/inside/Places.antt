-- Places of pairs, counted from 0.
use Rattle.std.specs.Prelude.{ℕ, zero, suc, List, [], ◌∷◌}
use Rattle.sj_object.specs.declared.entry.Entry.{Entry}

-- the pairs with v in the place of the value of the pair at place i
abbrev pub set_place : {K V : Type 0} → List (Entry K V) → ℕ → V → List (Entry K V)
set_place [] i v = []
set_place (e ∷ es) zero v = record e { value = v } ∷ es
set_place (e ∷ es) (suc i) v = e ∷ set_place es i v
