use Rattle.std.proofs.Common.{◌≡◌, List, []}
use Rattle.std.specs.List.{AllZip}
use Rattle.sj_object.specs.declared.entry.Entry.{Entry}
use Rattle.sj_owned.specs.From.{all_put, IsPairOf}
use Rattle.sj_owned.specs.declared.value.Value.{Value}
use Rattle.sj_owned.proofs.value.Value.from_pairs.Given as goal

abbrev pub invariant-loop-key : goal.invariant-loop-key
invariant-loop-key g l =
    (es : List (Entry g.row.K.Denot (Value g.row.K.Denot g.row.D.Denot))) × AllZip (IsPairOf g.S.Into.converts) l.yielded es × (l.members ≡ all_put g.K.ObjectKey.text [] es)
