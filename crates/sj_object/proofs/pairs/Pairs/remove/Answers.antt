use Rattle.std.proofs.Common.{length, subst, arith}
use Rattle.std.proofs.lemmas.Bool.{le-leb, leb-true}
use Rattle.sj_object.specs.Pairs.{keys_of}
use Rattle.sj_object.specs.inside.Stored.{IsFound}
use Rattle.sj_object.proofs.Chains.{length-keys_of}
use Rattle.sj_object.proofs.pairs.Pairs.remove.Goals as goal

pub returns-in-Listed-clause-found : goal.returns-in-Listed-clause-found
returns-in-Listed-clause-found g c =
    let text = g.K.ObjectKey.text in
    let old = c.in-Listed.entries in
    let new = c.remove.new.self in
    let few = leb-true (length (keys_of text old.items)) 32 (subst (IsFound text) c.in-Listed.is c.requires.found) in
    le-leb (length (keys_of text new.items)) 32 (omega (arith, few, length-keys_of text old.items, length-keys_of text new.items, c.remove.ensures.len, new.ok.0, old.ok.0))
