use Rattle.sj_tape.specs.Nodes.{entries}
use Rattle.sj_tape.proofs.Tapes.{nodes_are_tape, listed_tree-listing}
use Rattle.sj_tape.proofs.ValidTrees.{nodes_are_valid}
use Rattle.sj_tape.proofs.tape.Tape.from_listing.Goals as goal

pub invariant_of-result : goal.invariant_of-result
invariant_of-result c = record { listed = nodes_are_tape c.args.nodes.items c.requires; is_valid = nodes_are_valid c.args.nodes.items c.requires }

pub returns-clause-tree : goal.returns-clause-tree
returns-clause-tree c = λ t e. listed_tree-listing (entries c.args.nodes.items) t e
