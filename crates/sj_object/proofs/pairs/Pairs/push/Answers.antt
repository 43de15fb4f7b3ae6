use Rattle.std.proofs.Common.{length, subst, arith}
use Rattle.std.proofs.lemmas.Bool.{le-leb}
use Rattle.sj_object.specs.Pairs.{keys_of}
use Rattle.sj_object.specs.inside.Stored.{HasRoom}
use Rattle.sj_object.proofs.Chains.{length-keys_of}
use Rattle.sj_object.proofs.pairs.Pairs.push.Goals as goal

pub returns-in-Listed-clause-found : goal.returns-in-Listed-clause-found
returns-in-Listed-clause-found g c =
    let new = c.push_reserved.new.self in
    let room = subst HasRoom c.in-Listed.is c.requires.room in
    le-leb (length (keys_of g.K.ObjectKey.text new.items)) 32 (omega (arith, length-keys_of g.K.ObjectKey.text new.items, c.push_reserved.ensures.len, new.ok.0, c.in-Listed.entries.ok.0, room.1))
