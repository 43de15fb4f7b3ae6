use Rattle.std.proofs.Common.{◌++◌, ◌∷◌, [], List, length, take, add-one, refl, sym, subst, ap, ◌∙◌, arith}
use Rattle.std.proofs.lemmas.Bool.{ltb-true}
use Rattle.std.proofs.lemmas.List.{length-take, take_all}
use Rattle.sj_object.specs.Hash.{text_hash}
use Rattle.sj_object.specs.Pairs.{keys_of}
use Rattle.sj_object.specs.inside.Chains.{IsTable}
use Rattle.sj_object.specs.declared.entry.Entry.{Entry}
use Rattle.sj_object.proofs.Chains.{table_put, length-keys_of, keys_of-take_more}
use Rattle.sj_object.proofs.table.Table.fill.Goals as goal

pub loop-place-init : goal.loop-place-init
loop-place-init g c = (c.requires.empty, refl)

pub put-requires-clause-room : goal.put-requires-clause-room
put-requires-clause-room g c =
    let es = c.args.entries.now in
    let i = c.loop-place.place in
    let is = c.loop-place.invariant.0 in (
      ltb-true 0 (length c.loop-place.self.heads.items) is.0,
      omega (arith, is.1, length-keys_of g.K.ObjectKey.text (take i es), length-take i es, c.loop-place-test.true, c.loop-place.invariant.1, c.requires.room.1),
    )

pub put-requires-clause-place : goal.put-requires-clause-place
put-requires-clause-place g c =
    let es = c.args.entries.now in
    let i = c.loop-place.place in
    omega (arith, c.loop-place.invariant.0.1, length-keys_of g.K.ObjectKey.text (take i es), length-take i es, c.loop-place-test.true)

pub loop-place-preserved : goal.loop-place-preserved
loop-place-preserved g c =
    let text = g.K.ObjectKey.text in
    let es = c.args.entries.now in
    let i = c.loop-place.place in
    let e = c.index-entries-place.result in
    let more = keys_of-take_more text e es i c.loop-place-test.true ∙ ap (λ (x : Entry g.row.K.Denot g.row.V.Denot). keys_of text (take i es) ++ text x.key ∷ []) (sym c.index-entries-place.is) in
    let hash = c.hash_key.ensures ∙ ap text_hash c.as_text.ensures in (
      rw (add-one, more) (table_put c.loop-place.self c.put.new.self (keys_of text (take i es)) (text e.key) c.hash_key.result hash c.put.ensures.heads c.put.ensures.links c.loop-place.invariant.0),
      c.put.ensures.room ∙ c.loop-place.invariant.1,
    )

pub returns : goal.returns
returns g c =
    let es = c.args.entries.now in
    let all = take_all c.loop-place.place es c.loop-place-test.false in
    record {
      table = subst (λ (l : List (Entry g.row.K.Denot g.row.V.Denot)). IsTable c.loop-place.self (keys_of g.K.ObjectKey.text l)) all c.loop-place.invariant.0;
      room = c.loop-place.invariant.1;
    }
