use Rattle.std.proofs.Common.{rules}
use Rattle.sj_owned.proofs.Edits.{array_popped}
use Rattle.sj_owned.specs.declared.value.Value.{the_lemmas}
use Rattle.sj_owned.proofs.value.Value.pop.Goals as goal

pub returns-in-Array-clause-tree : goal.returns-in-Array-clause-tree
returns-in-Array-clause-tree g c =
    array_popped g.K.ObjectKey.text g.D.Literal.literal c.args.self.now c.in-Array.items c.pop.new.self c.in-Array.is (search rules) (search (rules, the_lemmas))
