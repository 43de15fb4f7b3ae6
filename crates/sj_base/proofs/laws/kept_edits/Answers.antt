use Rattle.sj_base.proofs.Kept.{kept_part, kept_last, kept_put, kept_with_member, kept_dropped, kept_pushed, kept_popped}
use Rattle.sj_base.proofs.laws.kept_edits.Goals as goal

pub returns-clause-parts : goal.returns-clause-parts
returns-clause-parts c = kept_part

pub returns-clause-last : goal.returns-clause-last
returns-clause-last c = kept_last

pub returns-clause-put : goal.returns-clause-put
returns-clause-put c = kept_put

pub returns-clause-put_member : goal.returns-clause-put_member
returns-clause-put_member c = kept_with_member

pub returns-clause-dropped : goal.returns-clause-dropped
returns-clause-dropped c = kept_dropped

pub returns-clause-pushed : goal.returns-clause-pushed
returns-clause-pushed c = kept_pushed

pub returns-clause-popped : goal.returns-clause-popped
returns-clause-popped c = kept_popped
