use Rattle.std.proofs.Common.{ℕ, List, subst, ap, sym, ◌∙◌, arith}
use Rattle.sj_object.specs.Hash.{text_hash}
use Rattle.sj_object.specs.Pairs.{keys_of}
use Rattle.sj_object.specs.inside.Chains.{IsTable}
use Rattle.sj_object.proofs.Chains.{length-keys_of}
use Rattle.sj_object.proofs.Distinct.{keys_of-insert}
use Rattle.sj_object.proofs.pairs.HashedPairs.insert.Goals as goal

pub insert-requires-clause-within : goal.insert-requires-clause-within
insert-requires-clause-within g c =
    omega (arith, c.requires.within, c.requires.table.1, length-keys_of g.K.ObjectKey.text c.args.self.now.entries.items)

pub insert-requires-clause-room : goal.insert-requires-clause-room
insert-requires-clause-room g c = (
  c.requires.table_room.0,
  omega (arith, c.requires.table_room.1, c.requires.table.1, length-keys_of g.K.ObjectKey.text c.args.self.now.entries.items),
)

pub returns-clause-table : goal.returns-clause-table
returns-clause-table g c =
    let text = g.K.ObjectKey.text in
    let es = c.args.self.now.entries.items in
    let entry = c.args.entry in
    let own = c.hash_key.ensures ∙ ap text_hash c.as_text.ensures in
    subst (IsTable c.insert.new.self)
    (sym {A = List (List ℕ)} (ap (keys_of text) c.insert_reserved.ensures.items ∙ keys_of-insert text es c.args.place entry))
    (c.insert.ensures (keys_of text es) (text entry.key) c.requires.table own)
