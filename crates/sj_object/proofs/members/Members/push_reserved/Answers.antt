use Rattle.std.proofs.Common.{sym, subst, ◌∙◌}
use Rattle.sj_object.specs.declared.entry.Entry.{Entry}
use Rattle.sj_object.specs.Members.{member_pairs}
use Rattle.sj_object.specs.Pairs.{keys_of, AreDistinct}
use Rattle.sj_object.proofs.Distinct.{distinct_push}
use Rattle.sj_object.proofs.Places.{no_place, put_key_no_place, has_text_no_place}
use Rattle.sj_object.proofs.members.Members.push_reserved.Goals as goal

pub returns-clause-pairs : goal.returns-clause-pairs
returns-clause-pairs g c =
    let text = g.K.ObjectKey.text in
    let pairs = member_pairs c.args.self.now in
    c.push.ensures.pairs ∙ sym (put_key_no_place text c.args.key c.args.value pairs (no_place text (text c.args.key) pairs c.requires.new_key))

pub returns-clause-members : goal.returns-clause-members
returns-clause-members g c =
    let text = g.K.ObjectKey.text in
    let pairs = member_pairs c.args.self.now in
    let new : Entry g.row.K.Denot g.row.V.Denot = record { key = c.args.key; value = c.args.value } in
    let absent = no_place text (text c.args.key) pairs c.requires.new_key in
    let distinct = distinct_push text pairs new c.requires.members.0 (has_text_no_place text (text c.args.key) pairs absent) in
    (subst (λ es. AreDistinct (keys_of text es)) (sym c.push.ensures.pairs) distinct, c.push.ensures.found)
