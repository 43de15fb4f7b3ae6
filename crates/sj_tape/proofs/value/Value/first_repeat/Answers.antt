use Rattle.std.proofs.Common.{◌∙◌, Some, map, ap}
use Rattle.sj_tape.specs.Repeats.{part_view}
use Rattle.sj_tape.proofs.Repeating.{map_reverse}
use Rattle.sj_tape.proofs.value.Value.first_repeat.Goals as goal

pub returns : goal.returns
returns c =
    let found = c.in-Some.found in
    ap (λ path. Some (path, found.key.now)) (ap (map part_view) c.reverse.ensures.items ∙ map_reverse part_view found.path.items) ∙ rw c.in-Some.is at c.in_ok-found.ensures.found
