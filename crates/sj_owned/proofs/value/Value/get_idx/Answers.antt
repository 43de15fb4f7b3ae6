use Rattle.std.proofs.Common.{◌∙◌, ap, sym, option_and_then, slice_get}
use Rattle.sj_base.specs.Path.{place, item_at, child}
use Rattle.sj_owned.specs.Views.{value_tree, items_view, items_inside}
use Rattle.sj_owned.proofs.Layers.{tree-Array, item_found, value_found, items_inside-Array}
use Rattle.sj_owned.proofs.value.Value.get_idx.Goals as goal

pub returns-in-Array-clause-tree : goal.returns-in-Array-clause-tree
returns-in-Array-clause-tree g c =
    let text = g.K.ObjectKey.text in
    let literal = g.D.Literal.literal in
    let i = c.args.index in
    let whole = ap (value_tree text literal) c.in-Array.is ∙ tree-Array text literal c.in-Array.items in
    item_found text literal c.deref.result.now i c.get.result c.get.ensures.lookup ∙ ap (λ vs. item_at (items_view text literal vs) i) c.deref.ensures.value ∙ sym (ap (λ t. child t (place i)) whole)

pub returns-in-Array-clause-value : goal.returns-in-Array-clause-value
returns-in-Array-clause-value g c =
    let i = c.args.index in
    value_found g.K.ObjectKey.text g.D.Literal.literal c.deref.result.now i c.get.result c.get.ensures.lookup
    ∙ ap (λ vs. slice_get vs i) c.deref.ensures.value
    ∙ sym (ap (λ o. option_and_then (λ vs. slice_get vs i) o) (ap items_inside c.in-Array.is ∙ items_inside-Array g.K.ObjectKey.text g.D.Literal.literal c.in-Array.items))
