use Rattle.sj_base.proofs.Valid.{valid_when_kept, valid_part, valid_last, valid_put, valid_with_member, valid_dropped, valid_pushed, valid_popped}
use Rattle.sj_base.proofs.laws.valid_edits.Goals as goal

pub returns-clause-kept : goal.returns-clause-kept
returns-clause-kept c = valid_when_kept

pub returns-clause-parts : goal.returns-clause-parts
returns-clause-parts c = valid_part

pub returns-clause-last : goal.returns-clause-last
returns-clause-last c = valid_last

pub returns-clause-put : goal.returns-clause-put
returns-clause-put c = valid_put

pub returns-clause-put_member : goal.returns-clause-put_member
returns-clause-put_member c = valid_with_member

pub returns-clause-dropped : goal.returns-clause-dropped
returns-clause-dropped c = valid_dropped

pub returns-clause-pushed : goal.returns-clause-pushed
returns-clause-pushed c = valid_pushed

pub returns-clause-popped : goal.returns-clause-popped
returns-clause-popped c = valid_popped
