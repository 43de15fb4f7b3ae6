use Rattle.std.proofs.Common.{◌+◌, ◌-◌, ◌*◌, ◌≤◌, length, drop, List, Option}
use Rattle.sj_tape.specs.Listing.{Entry}
use Rattle.sj_tape.specs.Nodes.{entries}
use Rattle.sj_tape.specs.inside.Passing.{PassesContents}
use Rattle.sj_tape.proofs.check.+check.Given as goal

abbrev pub decreases-tree_end : goal.decreases-tree_end
decreases-tree_end l = 3 * (length l.nodes.now - l.start)

abbrev pub decreases-part_end : goal.decreases-part_end
decreases-part_end l = 3 * (length l.nodes.now - l.start) + 1

abbrev pub decreases-contents_end : goal.decreases-contents_end
decreases-contents_end l = 3 * (length l.nodes.now - l.start) + 2

-- if what is left from `end` on gives `r`, then all of it gives `r`
abbrev pub invariant-contents_end-loop-i : goal.invariant-contents_end-loop-i
invariant-contents_end-loop-i l = (l.start ≤ l.end) × (l.end ≤ length l.nodes) × ((r : Option (List Entry)) → PassesContents l.has_keys (l.len - l._i) (drop l.end (entries l.nodes)) r → PassesContents l.has_keys l.len (drop l.start (entries l.nodes)) r)
