use Rattle.std.proofs.Common.{ap, ◌∙◌}
use Rattle.sj_object.specs.declared.pairs.HashedPairs.{HashedPairs}
use Rattle.sj_object.proofs.pairs.HashedPairs.take.Goals as goal

pub returns-in-Ok : goal.returns-in-Ok
returns-in-Ok g c =
    rw c.in-Ok.ensures.ok record {
      pairs = c.replace.ensures.value;
      table = c.in_ok-table.ensures.table;
      room = c.in_ok-table.ensures.room;
      unchanged = tt;
    }

pub returns-in-Err : goal.returns-in-Err
returns-in-Err g c = record {
  pairs = tt;
  table = tt;
  room = tt;
  unchanged = ap (λ (p : HashedPairs g.row.K.Denot g.row.V.Denot). p.entries) c.in-Err.ensures.value_returned ∙ c.replace.ensures.value;
}
