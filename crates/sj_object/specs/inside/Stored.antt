-- How an object stores its pairs.
use Rattle.std.specs.Prelude.{◌≡◌, ℕ, ◌+◌, ◌<◌, true, nat_le, List, length, Vec}
use mathlib.Core.Bool.{Bool-set}
use mathlib.Core.HLevel.{×_prop}
use Rattle.std.specs.Vec.{vec_capacity}
use Rattle.std.specs.declared.alloc.Global.{Global}
use Rattle.sj_object.specs.Pairs.{keys_of, AreDistinct, AreDistinct-prop}
use Rattle.sj_object.specs.declared.entry.Entry.{Entry}
use Rattle.sj_object.specs.declared.pairs.Pairs.{Pairs}
use Rattle.sj_object.specs.declared.pairs.Pairs.TheVariants.{Listed, Hashed}
use Rattle.sj_object.specs.inside.Chains.{IsTable, IsTable-prop, HasRoomFor}

-- the vector of the pairs
abbrev pub stored : {K V : Type 0} → Pairs K V → Vec (Entry K V) Global
stored (Listed entries) = entries
stored (Hashed pairs) = pairs.value.entries

-- At most 32 pairs need no table. Others have one, and each pair is found in it.
abbrev pub IsFound : {K V : Type 0} → (K → List ℕ) → Pairs K V → Type 0
IsFound text (Listed entries) = nat_le (length (keys_of text entries.items)) 32 ≡ true
IsFound text (Hashed pairs) = IsTable pairs.value.table (keys_of text pairs.value.entries.items)

IsFound-prop : {K V : Type 0} (text : K → List ℕ) (p : Pairs K V) → IsProp (IsFound text p)
IsFound-prop text (Listed entries) = Bool-set _ _
IsFound-prop text (Hashed pairs) = IsTable-prop pairs.value.table (keys_of text pairs.value.entries.items)

-- the keys are distinct, and each pair is found
abbrev pub AreIndexed : {K V : Type 0} → (K → List ℕ) → Pairs K V → Type 0
AreIndexed text p = AreDistinct (keys_of text (stored p).items) × IsFound text p

pub AreIndexed-prop : {K V : Type 0} (text : K → List ℕ) (p : Pairs K V) → IsProp (AreIndexed text p)
AreIndexed-prop text p = ×_prop (AreDistinct-prop _) (IsFound-prop text p)

-- there is room for one pair more
abbrev pub HasRoom : {K V : Type 0} → Pairs K V → Type 0
HasRoom (Listed entries) = (length entries.items < vec_capacity entries) × (length entries.items < 32)
HasRoom (Hashed pairs) = (length pairs.value.entries.items < vec_capacity pairs.value.entries) × HasRoomFor (length pairs.value.entries.items + 1) pairs.value.table

-- there is no table
abbrev pub IsListed : {K V : Type 0} → Pairs K V → Type 0
IsListed (Listed entries) = Unit {0}
IsListed (Hashed pairs) = ⊥
