use Rattle.std.proofs.Common.{Result, Ok, Err, sym, ap, ◌∙◌}
use Rattle.std.specs.Prelude.{OnOk}
use Rattle.sj_object.specs.declared.pairs.HashedPairs.{HashedPairs}
use Rattle.sj_object.specs.declared.pairs.Pairs.{Pairs}
use Rattle.sj_object.specs.inside.Stored.{stored}
use Rattle.sj_object.proofs.pairs.Pairs.make_room.Goals as goal

both_on_ok : {T E : Type 0} (P Q : Type 0) (r : Result T E) → OnOk r P → OnOk r Q → OnOk r (P × Q)
both_on_ok P Q (Ok done) p q = (p, q)
both_on_ok P Q (Err fault) p q = tt

pub returns-in-Hashed : goal.returns-in-Hashed
returns-in-Hashed g c =
    let made = c.make_room.ensures in
    record {
      pairs = made.pairs ∙ ap (λ (p : HashedPairs g.row.K.Denot g.row.V.Denot). p.entries.items) c.deref_mut.ensures.value ∙ sym (ap (λ (p : Pairs g.row.K.Denot g.row.V.Denot). (stored p).items) c.in-Hashed.is);
      found = rw made.pairs made.table;
      room = both_on_ok _ _ c.make_room.result made.entries_room made.table_room;
      few = λ few listed. rw c.in-Hashed.is at listed;
    }
