use Rattle.sj_records.proofs.Inverses.{insert_undone, remove_undone, push_undone, pop_undone, set_undone}
use Rattle.sj_records.proofs.laws.inverse_undoes.Goals as goal

pub returns-clause-insert : goal.returns-clause-insert
returns-clause-insert c = insert_undone

pub returns-clause-remove : goal.returns-clause-remove
returns-clause-remove c = remove_undone

pub returns-clause-push : goal.returns-clause-push
returns-clause-push c = push_undone

pub returns-clause-pop : goal.returns-clause-pop
returns-clause-pop c = pop_undone

pub returns-clause-set : goal.returns-clause-set
returns-clause-set c = set_undone
