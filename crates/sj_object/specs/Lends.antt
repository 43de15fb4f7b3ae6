-- What an object is once a write through a reference into it has ended.
use Rattle.std.specs.Prelude.{ℕ, List, Option, Result}
use Rattle.std.specs.Borrow.{Lends, LendsIf, LendsIfOk, Fml, RattleType, MutBor}
use Rattle.sj_object.specs.declared.entry.Entry.{Entry}
use Rattle.sj_object.specs.declared.key.ObjectKey.{Ghosts}
use Rattle.sj_object.specs.contracts.object.Object.{the_row}
use Rattle.sj_object.specs.Pairs.{set_value, put_key}
use Rattle.sj_object.specs.inside.Places.{set_place}

module _ (K V : RattleType) (key : Ghosts K.Denot) (o : MutBor (List (Entry K.Denot V.Denot))) where
  -- the value of the pair at place i is the last one written through r
  abbrev pub lends_place : ℕ → MutBor V.Denot → Fml
  lends_place i r = Lends (the_row K V key) V o r (set_place o.now i)

  -- the value of the key k is the last one written through r, and without a reference nothing changes
  abbrev pub lends_value : List ℕ → Option (MutBor V.Denot) → Fml
  lends_value k r = LendsIf (the_row K V key) V o r (set_value key.text o.now k) o.now

  -- the pair of k and the last value written through r is put, and after a refusal nothing has changed
  abbrev pub lends_put : K.Denot → Result (MutBor V.Denot) K.Denot → Fml
  lends_put k r = LendsIfOk (the_row K V key) V o r (put_key key.text o.now k) o.now
