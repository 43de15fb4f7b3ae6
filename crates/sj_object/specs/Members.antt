-- The pairs of which an object is made.
use Rattle.std.specs.Prelude.{ℕ, List}
use Rattle.sj_object.specs.declared.entry.Entry.{Entry}
use Rattle.sj_object.specs.declared.members.Members.{Members}
use Rattle.sj_object.specs.inside.Stored.{stored, AreIndexed, HasRoom}

module _ {K V : Type 0} where
  -- the pairs in order
  abbrev pub member_pairs : Members K V → List (Entry K V)
  member_pairs m = (stored m.pairs).items

  -- an object can be made of them: no two have the same key, and each is found
  abbrev pub AreMembers : (K → List ℕ) → Members K V → Type 0
  AreMembers text m = AreIndexed text m.pairs

  -- there is room for one pair more
  abbrev pub HasRoomForOne : Members K V → Type 0
  HasRoomForOne m = HasRoom m.pairs
