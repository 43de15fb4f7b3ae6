use Rattle.std.proofs.Common.{inr, ap}
use Rattle.sj_base.specs.Tree.{null}
use Rattle.sj_tape.specs.Nodes.{entries}
use Rattle.sj_tape.proofs.tape.Tape.null.Goals as goal

pub from_listing-requires : goal.from_listing-requires
from_listing-requires c = inr (null, tt, ap entries c.in_ok-nodes.ensures.items)

pub returns-clause-tree : goal.returns-clause-tree
returns-clause-tree c = c.from_listing.ensures.tree null (ap entries c.in_ok-nodes.ensures.items)
