use Rattle.std.proofs.Common.{ℕ, List, subst, ap, sym, ◌∙◌, length, arith}
use Rattle.std.proofs.lemmas.Bool.{ltb-true}
use Rattle.sj_object.specs.Pairs.{keys_of}
use Rattle.sj_object.specs.inside.Chains.{IsTable}
use Rattle.sj_object.proofs.Chains.{length-keys_of}
use Rattle.sj_object.proofs.Distinct.{keys_of-remove}
use Rattle.sj_object.proofs.pairs.HashedPairs.remove.Goals as goal

pub remove-requires-clause-within : goal.remove-requires-clause-within
remove-requires-clause-within g c =
    omega (arith, c.requires.within, c.requires.table.1, length-keys_of g.K.ObjectKey.text c.args.self.now.entries.items)

pub remove-requires-clause-some : goal.remove-requires-clause-some
remove-requires-clause-some g c = ltb-true 0 (length c.args.self.now.table.heads.items) c.requires.table.0

pub returns-clause-table : goal.returns-clause-table
returns-clause-table g c =
    let text = g.K.ObjectKey.text in
    let es = c.args.self.now.entries.items in
    subst (IsTable c.remove.new.self)
    (sym {A = List (List ℕ)} (ap (keys_of text) c.remove-2.ensures.items ∙ keys_of-remove text es c.args.place))
    (c.remove.ensures (keys_of text es) c.requires.table)
