use Rattle.std.proofs.Common.{◌≡◌, Some, map, option_map, ap, sym, ◌∙◌, rules}
use Rattle.std.proofs.lemmas.Iterator.{YieldsList-from_map_by}
use Rattle.std.proofs.lemmas.Iterator.Consumers.{YieldsList-from_first}
use Rattle.sj_base.specs.Containers.{members_in}
use Rattle.sj_object.specs.Iterators.{keys_left}
use Rattle.sj_owned.specs.Views.{value_tree, members_view}
use Rattle.sj_documents.proofs.Edits.{members-inside}
use Rattle.sj_documents.proofs.ListedKeys.{keys-put, strings_of_entries}
use Rattle.sj_documents.proofs.part.RefValuePart.put_keys.Goals as goal

pub returns : goal.returns
returns g c =
    let text = g.K.ObjectKey.text in
    let literal = g.D.Literal.literal in
    let entries = c.in_ok-as_object.field-0.now in
    let members = members_view text literal entries in
    let inside : members_in (value_tree text literal c.args.self.now) ≡ Some members =
    members-inside text literal c.args.self.now ∙ ap (option_map (members_view text literal)) (sym c.in_ok-as_object.ensures) in
    let keys = YieldsList-from_first (λ k. k.now) keys_left (map (λ e. e.key) entries) (ap keys_left c.map.ensures.source ∙ c.keys-keys.ensures) in
    let texts = YieldsList-from_map_by _ (λ k. k.now) text keys c.map.ensures.closure (λ x r q k. search rules) in
    (members, inside, keys-put _ c.map.result (map text (map (λ e. e.key) entries)) members _ _ c.put_keys.result texts (strings_of_entries text literal entries) c.put_keys.ensures)
