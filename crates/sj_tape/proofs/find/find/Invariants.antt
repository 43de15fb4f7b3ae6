use Rattle.std.proofs.Common.{◌≡◌, ◌-◌, ◌*◌, ◌≤◌, length, drop}
use Rattle.sj_base.specs.Reads.{reads_items, reads_places}
use Rattle.sj_tape.specs.Children.{member_nodes}
use Rattle.sj_tape.specs.Counts.{ReadsAtMost}
use Rattle.sj_tape.proofs.Finding.{MembersFrom}
use Rattle.sj_tape.proofs.find.find.Given as goal

-- what is left to be looked at from the place `at`, and what was read until then
abbrev pub invariant-loop-left : goal.invariant-loop-left
invariant-loop-left l = record {
  left_within : l.left ≤ l.len;
  at_within : l.at ≤ length (reads_items l.initial.nodes);
  members : MembersFrom l.left (drop l.at (reads_items l.initial.nodes));
  found : member_nodes l.left (drop l.at (reads_items l.initial.nodes)) l.key ≡ member_nodes l.len (reads_items l.initial.nodes) l.key;
  reads : ReadsAtMost (2 * (l.len - l.left)) l.at (reads_places l.initial.nodes) (reads_places l.nodes);
  items : reads_items l.nodes ≡ reads_items l.initial.nodes;
}

abbrev pub decreases-loop-left : goal.decreases-loop-left
decreases-loop-left l = l.left
