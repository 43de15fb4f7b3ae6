-- What a document is once a write through a reference into it has ended.
use Rattle.std.specs.Prelude.{ℕ, List, Option, Some, None, Vec}
use Rattle.std.specs.Borrow.{LendsIf, Fml, RattleType, MutBor}
use Rattle.std.specs.Vec.{with_item}
use Rattle.std.specs.contracts.alloc.Global as global
use Rattle.std.specs.contracts.vec.Vec as vec
use Rattle.std.specs.contracts.impls.GlobalAllocator.TheImpl.{ghosts}
use Rattle.std.specs.declared.alloc.Global.{Global}
use Rattle.sj_object.specs.contracts.object.Object as object
use Rattle.sj_object.specs.declared.entry.Entry.{Entry}
use Rattle.sj_object.specs.declared.key.ObjectKey.{Ghosts}
use Rattle.sj_owned.specs.contracts.value.Value.{the_row}
use Rattle.sj_owned.specs.declared.value.Value.{Value, Array, Object}

module _ (K D : RattleType) (key : Ghosts K.Denot) (v : MutBor (Value K.Denot D.Denot)) where
  -- the document is the array that r leaves, or without a reference what it was
  abbrev pub lends_items : Option (MutBor (Vec (Value K.Denot D.Denot) Global)) → Fml
  lends_items r = LendsIf (the_row K D key) (vec.the_row (the_row K D key) global.the_row ghosts) v r Array v.now

  -- the same of an object
  abbrev pub lends_members : Option (MutBor (List (Entry K.Denot (Value K.Denot D.Denot)))) → Fml
  lends_members r = LendsIf (the_row K D key) (object.the_row K (the_row K D key) key) v r Object v.now

-- the type of a vector, as clauses on what is lent name it
abbrev pub array_row : RattleType → RattleType
array_row T = vec.the_row T global.the_row ghosts

module _ {V T : Type 0} where
  -- the value v with its item i set to w, if v is the array vs. Any other value stays as it is
  abbrev pub item_set : (Vec T Global → V) → V → Option (Vec T Global) → ℕ → T → V
  item_set of_array v (Some vs) i w = of_array (with_item vs i w)
  item_set of_array v None i w = v

  -- the same of the value of the member with the key k, if v is an object with the members o
  abbrev pub member_set : {O : Type 0} → (O → List ℕ → T → O) → (O → V) → V → Option O → List ℕ → T → V
  member_set with_value of_object v (Some o) k w = of_object (with_value o k w)
  member_set with_value of_object v None k w = v
