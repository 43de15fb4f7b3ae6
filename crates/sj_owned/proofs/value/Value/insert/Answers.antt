use Rattle.std.proofs.Common.{rules}
use Rattle.sj_owned.proofs.Edits.{object_put}
use Rattle.sj_owned.specs.declared.value.Value.{the_lemmas}
use Rattle.sj_owned.proofs.value.Value.insert.Goals as goal

pub returns-in-Ok-clause-tree : goal.returns-in-Ok-clause-tree
returns-in-Ok-clause-tree g c =
    let put = rw c.in-Object.members-is at c.in-Ok.ensures.ok in
    object_put g.K.ObjectKey.text g.D.Literal.literal c.args.self.now c.in-Object.members c.insert.new.self c.args.key c.args.value c.in-Object.is put (search (rules, the_lemmas))

pub returns-in-Ok-clause-replaced : goal.returns-in-Ok-clause-replaced
returns-in-Ok-clause-replaced g c = search (rules, the_lemmas)
