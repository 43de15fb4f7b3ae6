use Rattle.std.proofs.Common.{sym, ◌∙◌, rules}
use Rattle.sj_documents.proofs.Edits.{removed, popped}
use Rattle.sj_documents.proofs.edit.WriteEdit.make.Goals as goal

pub returns-in-Ok : goal.returns-in-Ok
returns-in-Ok g c = rw c.in-Remove.is (removed g.K.ObjectKey.text g.D.Literal.literal c.args.part.now c.remove.new.self c.in-Ok.old c.in-Remove.key.now c.in-Ok.ensures.tree (sym c.in-Ok.is ∙ c.remove.ensures.value))

pub returns-in-Ok-pop : goal.returns-in-Ok-pop
returns-in-Ok-pop g c = rw c.in-Pop.is (popped g.K.ObjectKey.text g.D.Literal.literal c.args.part.now c.pop.new.self c.in-Ok-pop.last c.in-Ok-pop.ensures.tree (sym c.in-Ok-pop.is ∙ c.pop.ensures.value))

pub returns-in_ok-new-in-Set : goal.returns-in_ok-new-in-Set
returns-in_ok-new-in-Set g c = search rules
