use Rattle.std.proofs.Common.{◌≡◌}
use Rattle.sj_base.specs.Path.{item_at}
use Rattle.sj_tape.specs.Views.{array_items, array_item}
use Rattle.sj_tape.proofs.array.Array.get.Given as goal

abbrev pub invariant-loop-first : goal.invariant-loop-first
invariant-loop-first l = (item_at (array_items l.rest) l.left ≡ item_at (array_items l.self) l.index) × (array_item l.rest l.left ≡ array_item l.self l.index)

abbrev pub decreases-loop-first : goal.decreases-loop-first
decreases-loop-first l = l.left
