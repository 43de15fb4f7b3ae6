use Rattle.std.proofs.Common.{◌≡◌, take, vec_capacity}
use Rattle.sj_object.specs.Pairs.{keys_of}
use Rattle.sj_object.specs.inside.Chains.{IsTable}
use Rattle.sj_object.proofs.table.Table.fill.Given as goal

abbrev pub invariant-loop-place : goal.invariant-loop-place
invariant-loop-place g l =
    IsTable l.self (keys_of g.K.ObjectKey.text (take l.place l.entries)) × (vec_capacity l.self.links ≡ vec_capacity l.fn.self.links)
