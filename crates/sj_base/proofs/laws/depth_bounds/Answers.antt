use Rattle.sj_base.proofs.Depths.{depth_when_kept, depth_of_part, depth_when_put, depth_with_member, depth_when_dropped, depth_when_pushed, depth_when_popped}
use Rattle.sj_base.proofs.laws.depth_bounds.Goals as goal

pub returns-clause-kept : goal.returns-clause-kept
returns-clause-kept c = depth_when_kept

pub returns-clause-parts : goal.returns-clause-parts
returns-clause-parts c = depth_of_part

pub returns-clause-put : goal.returns-clause-put
returns-clause-put c = depth_when_put

pub returns-clause-put_member : goal.returns-clause-put_member
returns-clause-put_member c = depth_with_member

pub returns-clause-dropped : goal.returns-clause-dropped
returns-clause-dropped c = depth_when_dropped

pub returns-clause-pushed : goal.returns-clause-pushed
returns-clause-pushed c = depth_when_pushed

pub returns-clause-popped : goal.returns-clause-popped
returns-clause-popped c = depth_when_popped
