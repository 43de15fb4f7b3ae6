use Rattle.std.proofs.Common.{◌≡◌, ◌∙◌, None, length, get_or, ap}
use Rattle.std.proofs.lemmas.List.{get_or_default}
use Rattle.sj_object.specs.inside.Chains.{head_of, sought}
use Rattle.sj_object.proofs.Chains.{look_up}
use Rattle.sj_object.proofs.table.Table.find.Goals as goal

pub returns : goal.returns
returns g c =
    let text = g.K.ObjectKey.text in
    let es = c.args.entries.now in
    let k = c.args.key.now in
    let t = c.args.self.now in
    let start : c.index.result.now ≡ head_of t.heads.items c.args.hash =
    c.index.ensures ∙ get_or_default t.heads.items c.home.result c.index.result.now None c.home.ensures.within ∙ ap (λ i. get_or t.heads.items i None) c.home.ensures.home in
    c.seek.ensures
    ∙ ap (λ links. sought text es c.args.hash k (length links) links c.index.result.now) c.deref.ensures.value
    ∙ ap (λ at. sought text es c.args.hash k (length t.links.items) t.links.items at) start
    ∙ look_up text k t es c.args.hash c.requires.hash c.requires.table c.requires.distinct
