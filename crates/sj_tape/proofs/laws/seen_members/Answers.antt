use Rattle.sj_tape.proofs.ChildTrees.{seen_members}
use Rattle.sj_tape.proofs.laws.seen_members.Goals as goal

pub returns : goal.returns
returns c = seen_members
