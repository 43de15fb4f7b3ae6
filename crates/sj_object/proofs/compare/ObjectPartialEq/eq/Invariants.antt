use Rattle.std.proofs.Common.{◌≡◌, true, take}
use Rattle.std.specs.List.{list_all}
use Rattle.sj_object.specs.Compare.{agree_at}
use Rattle.sj_object.specs.Pairs.{keys_of}
use Rattle.sj_object.proofs.compare.ObjectPartialEq.eq.Given as goal

abbrev pub invariant-loop-entry : goal.invariant-loop-entry
invariant-loop-entry g l =
    list_all (agree_at g.K.ObjectKey.text g.V.PartialEq.eq l.self l.other) (keys_of g.K.ObjectKey.text (take l.entry-index l.self)) ≡ true
