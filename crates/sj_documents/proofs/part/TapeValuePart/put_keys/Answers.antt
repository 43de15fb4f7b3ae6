use Rattle.std.proofs.Common.{map, sym}
use Rattle.std.proofs.lemmas.Iterator.Consumers.{YieldsList-from_first}
use Rattle.sj_base.specs.Containers.{member_pairs}
use Rattle.sj_tape.specs.Views.{object_members, keys_left}
use Rattle.sj_documents.proofs.ListedKeys.{keys-put, strings_of_pairs}
use Rattle.sj_documents.proofs.part.TapeValuePart.put_keys.Goals as goal

pub returns : goal.returns
returns c =
    let members = object_members c.in_ok-as_object.field-0 in
    let names = map (λ p. p.0) (member_pairs members) in
    let keys = YieldsList-from_first (λ k. k.now) keys_left names c.keys.ensures.keys in
    (members, sym c.in_ok-as_object.ensures.tree, keys-put _ c.keys.result names members _ _ c.put_keys.result keys (strings_of_pairs members) c.put_keys.ensures)
