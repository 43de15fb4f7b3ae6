use Rattle.std.specs.List.{AllZip}
use Rattle.sj_owned.proofs.from.convert_into.Given as goal

abbrev pub invariant-loop-value : goal.invariant-loop-value
invariant-loop-value g l = AllZip g.S.Into.converts l.yielded l.items.items
