use Rattle.std.proofs.Common.{◌≡◌, ◌++◌, map}
use Rattle.sj_owned.proofs.from.entry_pairs.Given as goal

abbrev pub invariant-loop-key : goal.invariant-loop-key
invariant-loop-key g l =
    l.pairs.items ++ map (λ e. (g.K.FromString.of_string e.0, e.1)) l.key-iterator ≡ map (λ e. (g.K.FromString.of_string e.0, e.1)) l.fn.map.entries
