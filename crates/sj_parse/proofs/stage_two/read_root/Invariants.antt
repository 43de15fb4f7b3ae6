use Rattle.std.proofs.Common.{◌≡◌, ℕ, ◌-◌, List, length, vec_capacity}
use Rattle.sj_base.specs.Reads.{reads_items}
use Rattle.sj_parse.specs.declared.stage_two.State.TheVariants.{Value}
use Rattle.sj_parse.specs.inside.Underway.{Underway}
use Rattle.sj_parse.proofs.stage_two.read_root.Given as goal

abbrev pub invariant-loop-state : goal.invariant-loop-state
invariant-loop-state l =
    ((input read : List ℕ) → Underway input l.fn.limit read l.fn.places Value l.fn.cursor l.fn.nodes l.fn.stack → Underway input l.fn.limit read l.places l.state l.cursor l.nodes l.stack)
    × (reads_items l.places ≡ reads_items l.fn.places)
    × (vec_capacity l.nodes ≡ vec_capacity l.fn.nodes) × (vec_capacity l.stack ≡ vec_capacity l.fn.stack)

abbrev pub decreases-loop-state : goal.decreases-loop-state
decreases-loop-state l = length (reads_items l.fn.places) - l.cursor.count
