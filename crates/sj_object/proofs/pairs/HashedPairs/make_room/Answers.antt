use Rattle.std.proofs.Common.{length, ap, arith}
use Rattle.std.proofs.lemmas.Bool.{ltb-true}
use Rattle.sj_object.proofs.Chains.{length-keys_of}
use Rattle.sj_object.proofs.pairs.HashedPairs.make_room.Goals as goal

pub make_room-requires : goal.make_room-requires
make_room-requires g c =
    omega (arith, c.in_ok-reserve.ensures.ok, c.capacity.ensures, c.requires.1, length-keys_of g.K.ObjectKey.text c.args.self.now.entries.items, ap length c.reserve.ensures.items)

pub returns-else-not-has_room-clause-table_room : goal.returns-else-not-has_room-clause-table_room
returns-else-not-has_room-clause-table_room g c =
    let old = c.args.self.now in (
      ltb-true 0 (length old.table.heads.items) c.requires.0,
      omega (arith, c.has_room.ensures c.if-not-has_room.false, c.requires.1, length-keys_of g.K.ObjectKey.text old.entries.items, ap length c.reserve.ensures.items),
    )
