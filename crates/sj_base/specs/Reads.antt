-- A slice that is read one item at a time: its items, and the places that were read.
use Rattle.std.specs.Prelude.{ℕ, nat_lt, if◌then◌else◌, List, [], ◌∷◌, ◌++◌, length}
use Rattle.sj_base.specs.declared.reads.Reads.{Reads}

abbrev pub reads_items : {T : Type 0} → Reads T → List T
reads_items r = r.items.now

-- the places that were read, in order
abbrev pub reads_places : {T : Type 0} → Reads T → List ℕ
reads_places r = r.places.list

-- these places, and that one, if the slice has it
abbrev pub noted : {T : Type 0} → List T → List ℕ → ℕ → List ℕ
noted items places place = if nat_lt place (length items) then places ++ place ∷ [] else places
