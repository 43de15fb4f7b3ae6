use Rattle.std.proofs.Common.{rules}
use Rattle.sj_owned.proofs.Edits.{object_dropped}
use Rattle.sj_owned.specs.declared.value.Value.{the_lemmas}
use Rattle.sj_owned.proofs.value.Value.remove.Goals as goal

pub returns-in-Object-clause-tree : goal.returns-in-Object-clause-tree
returns-in-Object-clause-tree g c =
    let rest = rw c.in-Object.members-is at c.remove.ensures.rest in
    object_dropped g.K.ObjectKey.text g.D.Literal.literal c.args.self.now c.in-Object.members c.remove.new.self c.args.key.now c.in-Object.is rest (search (rules, the_lemmas))
