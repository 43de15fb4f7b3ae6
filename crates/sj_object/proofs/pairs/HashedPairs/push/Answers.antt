use Rattle.std.proofs.Common.{ap, ◌∙◌, arith}
use Rattle.sj_object.specs.Hash.{text_hash}
use Rattle.sj_object.specs.Pairs.{keys_of}
use Rattle.sj_object.proofs.Chains.{length-keys_of, table_put}
use Rattle.sj_object.proofs.Distinct.{keys_of-push}
use Rattle.sj_object.proofs.pairs.HashedPairs.push.Goals as goal

pub put-requires-clause-room : goal.put-requires-clause-room
put-requires-clause-room g c =
    (c.requires.table_room.0, omega (arith, c.requires.table_room.1, c.requires.table.1, length-keys_of g.K.ObjectKey.text c.args.self.now.entries.items))

pub put-requires-clause-place : goal.put-requires-clause-place
put-requires-clause-place g c =
    omega (arith, c.len.ensures, c.args.self.now.entries.ok.0, c.requires.table.1, length-keys_of g.K.ObjectKey.text c.args.self.now.entries.items)

pub returns-clause-table : goal.returns-clause-table
returns-clause-table g c =
    let text = g.K.ObjectKey.text in
    let items = c.args.self.now.entries.items in
    rw (c.push_reserved.ensures.items, keys_of-push text items c.args.entry)
    (table_put c.args.self.now.table c.put.new.self (keys_of text items) (text c.args.entry.key) c.hash_of-hash.result (c.hash_of-hash.ensures ∙ ap text_hash c.as_text.ensures) c.put.ensures.heads c.put.ensures.links c.requires.table)
